-- What is kept of the rows of a table while they are read.
use Rattle.std.specs.Prelude.{◌≡◌, ◌+◌, ℕ, List, [], ◌∷◌, ◌++◌, length, map, filter_map, Option, Result, Ok, MatchResult}
use Rattle.gtfs_tables.specs.{declared.faults.FeedFault.FeedFault, Answers.IsFaultOf, Columns.Row, TableRows.TableRow, Tables.IsWithinLimit, Tables.Table, Tables.judged, Tables.rows_behind, Tables.records_of}

-- the keys and the records of the earlier rows, which are within the limit
pub record Holds {F R K : Type 0} (t : Table F R) (key : F → K) (keys : List K) (rows : List R) (earlier : List F) : Type 0 where
  pub keys_are : keys ≡ map key earlier
  pub rows_are : rows ≡ filter_map t.gives earlier
  pub few : IsWithinLimit t.limit (length rows)

-- the keys of the records are kept besides
pub record HoldsListed {F R K L : Type 0} (t : Table F R) (key : F → K) (name : R → L) (keys : List K) (names : List L) (rows : List R) (earlier : List F) : Type 0 where
  pub holds : Holds t key keys rows earlier
  pub listed : names ≡ map name rows

-- the row joins the earlier ones
pub record IsTaken {F R : Type 0} (t : Table F R) (earlier : List F) (row : TableRow) (Kept : List F → Type 0) : Type 0 where
  pub said : F
  pub is : judged t earlier row ≡ Ok said
  pub kept : Kept (earlier ++ said ∷ [])

-- what was kept of the earlier rows is kept with this row, or its fault is answered
abbrev pub TakesRow : {F R : Type 0} → Table F R → TableRow → (List F → Type 0) → (List F → Type 0) → Result (Unit {0}) FeedFault → Type 0
TakesRow {F} t row Old New result = (earlier : List F) → Old earlier → MatchResult result (λ _. IsTaken t earlier row New) (IsFaultOf (judged t earlier row))

-- so many rows were taken, the header among them, and others are left
pub record IsOnTheWay {F R : Type 0} (t : Table F R) (header : Row) (rows left : List Row) (number : ℕ) (Kept : List F → Type 0) : Type 0 where
  pub so_far : List F
  pub counted : number ≡ length so_far + 1
  pub goes : rows_behind t header [] rows ≡ rows_behind t header so_far left
  pub kept : Kept so_far

-- all rows of a table were taken, and this is kept of them
pub record AreTaken {F R : Type 0} (t : Table F R) (header : Row) (rows : List Row) (Kept : List F → Type 0) : Type 0 where
  pub all : List F
  pub are : rows_behind t header [] rows ≡ Ok all
  pub kept : Kept all

-- all rows of a file were taken, and this is kept of them
pub record IsRead {F R : Type 0} (t : Table F R) (text : Option (List ℕ)) (Kept : List F → Type 0) : Type 0 where
  pub all : List F
  pub are : records_of t text ≡ Ok (filter_map t.gives all)
  pub kept : Kept all

-- the records of a file
pub record AreRead {F R : Type 0} (t : Table F R) (text : Option (List ℕ)) (rows : List R) : Type 0 where
  pub are : records_of t text ≡ Ok rows
  pub few : IsWithinLimit t.limit (length rows)
