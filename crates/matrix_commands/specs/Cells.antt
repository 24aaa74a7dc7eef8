-- What a cell of a table says of an origin and a destination: what `answer` would say of their query line, as one value.
use Rattle.std.specs.Prelude.{◌≡◌, ℕ, ◌-◌, List, [], ◌∷◌, codes, decimal, Option}
use Rattle.plain_texts.specs.{spaced}
use Rattle.mode_network.specs.{NetworkLists.NetworkLists, Route}
use Rattle.journey.specs.{TooLarge, IsRefused, Asked, Asks, IsBest, HasNone, refusal_text, IsUnder}
pub use Rattle.matrix_commands.specs.{declared.cell.Cell.Cell, declared.cell.Cell.TheVariants.Takes, declared.cell.Cell.TheVariants.Without, declared.cell.Cell.TheVariants.Refused}

-- the query line of an origin and a destination: its fields, joined by one space each
abbrev pub query_line_of : (date time expr from to : List ℕ) → List ℕ
query_line_of date time expr from to = spaced (from ∷ to ∷ date ∷ time ∷ expr ∷ [])

-- the milliseconds from the departure to the arrival of a best journey; that there is none; or the fault with which the line is refused
abbrev pub IsCellOf : NetworkLists → List ℕ → Cell → Type 0
IsCellOf n line (Takes ms) = (asked : Asked) × (j : Route) × (best : IsBest n asked j) × Asks n line asked × (ms ≡ best.arrival - asked.depart)
IsCellOf n line Without = (asked : Asked) × Asks n line asked × HasNone n asked
IsCellOf n line (Refused fault) = IsRefused n line fault

-- and where the expression has more places than are allowed, so many
abbrev pub IsRightCell : NetworkLists → (places : Option ℕ) → List ℕ → Cell → Type 0
IsRightCell n places line cell = IsUnder n places line (λ count. cell ≡ Refused (TooLarge count)) (IsCellOf n line cell)

abbrev pub cell_text : Cell → List ℕ
cell_text (Takes ms) = decimal ms
cell_text Without = codes "none"
cell_text (Refused fault) = refusal_text fault

-- the right value for a query line
pub record IsCell (n : NetworkLists) (places : Option ℕ) (line value : List ℕ) : Type 0 where
  pub cell : Cell
  pub right : IsRightCell n places line cell
  pub tells : value ≡ cell_text cell
