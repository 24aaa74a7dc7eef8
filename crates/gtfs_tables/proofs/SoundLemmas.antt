-- What the rows of a table keep where none has a fault.
use Rattle.plan_base.proofs.Common.{◌≡◌, ℕ, List, [], ◌∷◌, ◌++◌, map, length, filter_map, refl, ap, subst, ◌∙◌, Bool, true, false, cond, Option, None, Some, Result, Ok, Err, IfOk, option_map, IsEquivalence, list_any, cons_option, AllByRecursion, ok_or, option_or, IfOk-at_ok, IsDistinct-push}
use Rattle.std.specs.List.{IsDistinct}
use Rattle.gtfs_tables.specs.{◌>>=◌, faultless, Row, TableRow, Table, first_dangling, row_fault, judged, row_of, rows_behind, header_in, rows_below, missing_column, rows_of_file, inside.AreRead}
use Rattle.gtfs_tables.proofs.CallLemmas.{one_more_known}

-- a step that has a value
pub record IsBound {A B E : Type 0} (r : Result A E) (f : A → Result B E) (b : B) : Type 0 where
  pub value : A
  pub is : r ≡ Ok value
  pub then : f value ≡ Ok b

pub bound : {A B E : Type 0} (r : Result A E) (f : A → Result B E) (b : B) → r >>= f ≡ Ok b → IsBound r f b
bound (Ok a) f b e = record { value = a; is = refl; then = e }
bound (Err fault) f b e = absurd cc

pub same_Ok : {A E : Type 0} (a b : A) → ◌≡◌ {A = Result A E} (Ok a) (Ok b) → a ≡ b
same_Ok a b e = cc

pub has_value : {A E : Type 0} (o : Option A) (fault : E) (a : A) → ok_or o fault ≡ Ok a → o ≡ Some a
has_value None fault a e = absurd cc
has_value (Some b) fault a e = ap Some (same_Ok b a e)

-- what is behind a step keeps what it keeps behind each value of the step
pub behind : {A B E : Type 0} (r : Result A E) (f : A → Result B E) (P : B → Type 0) → ((a : A) → r ≡ Ok a → IfOk (f a) P) → IfOk (r >>= f) P
behind (Ok a) f P keeps = keeps a refl
behind (Err fault) f P keeps = tt

no_fault : {A E : Type 0} (o : Option E) (a b : A) → faultless o a ≡ Ok b → (o ≡ None) × (a ≡ b)
no_fault None a b e = (refl, same_Ok a b e)
no_fault (Some fault) a b e = absurd cc

neither : {E : Type 0} (o p : Option E) → option_or o p ≡ None → (o ≡ None) × (p ≡ None)
neither None p e = (refl, e)
neither (Some fault) p e = absurd cc

untrue : {E : Type 0} (t : Bool) (fault : E) → cond t (Some fault) None ≡ None → t ≡ false
untrue true fault e = absurd cc
untrue false fault e = refl

unmapped : {A B : Type 0} (f : A → B) (o : Option A) → option_map f o ≡ None → o ≡ None
unmapped f None e = refl
unmapped f (Some a) e = absurd cc

module _ {F R : Type 0} (t : Table F R) where
  -- a row without a fault
  pub record Passes (earlier : List F) (f : F) : Type 0 where
    pub row : TableRow
    pub reads : t.reads row ≡ Ok f
    pub new : list_any (t.has_key_of f) earlier ≡ false
    pub known : first_dangling (t.refers f) ≡ None

  passes : (earlier : List F) (row : TableRow) (f : F) → judged t earlier row ≡ Ok f → Passes earlier f
  passes earlier row f e =
      let read = bound (t.reads row) _ f e in
      let (none, same) = no_fault (row_fault t row earlier read.value) read.value f read.then in
      let (new, others) = neither _ _ none in
      subst (Passes earlier) same (record { row = row; reads = read.is; new = untrue _ _ new; known = unmapped _ _ (neither _ _ others).0 })

  -- what each row keeps, all rows keep
  pub kept_by_all : (Kept : List F → Type 0) → ((earlier : List F) (f : F) → Passes earlier f → Kept earlier → Kept (earlier ++ f ∷ []))
      → (header : Row) (earlier : List F) (rows : List Row) (all : List F) → Kept earlier → rows_behind t header earlier rows ≡ Ok all → Kept all
  kept_by_all Kept keeps header earlier [] all kept e = subst Kept (same_Ok earlier all e) kept
  kept_by_all Kept keeps header earlier (row ∷ rows) all kept e =
      let row_is = bound (judged t earlier (row_of t header (length earlier) row)) _ all e in
      kept_by_all Kept keeps header (earlier ++ row_is.value ∷ []) rows all (keeps earlier row_is.value (passes earlier (row_of t header (length earlier) row) row_is.value row_is.is) kept) row_is.then

-- the records of a table that was read keep what each row keeps
pub kept_by_records : {F R : Type 0} (t : Table F R) (Kept : List F → Type 0) (KeptToo : List R → Type 0) → Kept []
    → ((earlier : List F) (f : F) → Passes t earlier f → Kept earlier → Kept (earlier ++ f ∷ []))
    → ((all : List F) → Kept all → KeptToo (filter_map t.gives all)) → (text : Option (List ℕ)) (rows : List R) → AreRead t text rows → KeptToo rows
kept_by_records t Kept KeptToo none keeps gives None rows read = subst KeptToo (same_Ok [] rows read.are) (gives [] none)
kept_by_records t Kept KeptToo none keeps gives (Some text) rows read =
    let heads = bound (faultless (missing_column t.file t.needed (header_in (rows_of_file text))) (header_in (rows_of_file text))) _ rows read.are in
    let all = bound (rows_behind t heads.value [] (rows_below (rows_of_file text))) _ rows heads.then in
    subst KeptToo (same_Ok _ rows all.then) (gives all.value (kept_by_all t Kept keeps heads.value [] (rows_below (rows_of_file text)) all.value none all.is))

-- what the records of rows keep, one by one
module _ {F R : Type 0} (gives : F → Option R) where
  pub each_record : (P : F → Type 0) (Q : R → Type 0) → ((f : F) (r : R) → P f → gives f ≡ Some r → Q r) → (fs : List F) → AllByRecursion P fs → AllByRecursion Q (filter_map gives fs)
  each_record P Q keeps [] all = tt
  each_record P Q keeps (f ∷ fs) all = by_record (gives f) (λ r. keeps f r all.0) (each_record P Q keeps fs all.1)
    where
      by_record : (o : Option R) → ((r : R) → o ≡ Some r → Q r) → AllByRecursion Q (filter_map gives fs) → AllByRecursion Q (cons_option o (filter_map gives fs))
      by_record None keeps rest = rest
      by_record (Some r) keeps rest = (keeps r refl, rest)

  -- records are distinct where their rows are
  pub distinct_records : (same : F → F → Bool) (same_record : R → R → Bool) → ((f g : F) (r s : R) → gives f ≡ Some r → gives g ≡ Some s → same_record r s ≡ same f g)
      → (fs : List F) → IsDistinct same fs → IsDistinct same_record (filter_map gives fs)
  unfolding IsDistinct
  distinct_records same same_record agree [] distinct = tt
  distinct_records same same_record agree (f ∷ fs) distinct = by_record (gives f) refl (distinct_records same same_record agree fs distinct.1)
    where
      by_record : (o : Option R) → gives f ≡ o → IsDistinct same_record (filter_map gives fs) → IsDistinct same_record (cons_option o (filter_map gives fs))
      by_record None is rest = rest
      by_record (Some r) is rest = (each_record (λ g. same f g ≡ false) (λ s. same_record r s ≡ false) (λ g s differs given. agree f g r s is given ∙ differs) fs distinct.0, rest)

-- keys are distinct where what has them is
pub distinct_keys : {X K : Type 0} (key : X → K) (eq : K → K → Bool) (xs : List X) → IsDistinct (λ x y. eq (key x) (key y)) xs → IsDistinct eq (map key xs)
unfolding IsDistinct
distinct_keys key eq [] distinct = tt
distinct_keys {X} key eq (x ∷ xs) distinct = (each xs distinct.0, distinct_keys key eq xs distinct.1)
  where
    each : (ys : List X) → AllByRecursion (λ y. eq (key x) (key y) ≡ false) ys → AllByRecursion (λ k. eq (key x) k ≡ false) (map key ys)
    each [] all = tt
    each (y ∷ ys) all = (all.0, each ys all.1)

nothing_distinct : {K : Type 0} (eq : K → K → Bool) → IsDistinct eq []
unfolding IsDistinct
nothing_distinct eq = tt

-- the records of a table that was read: each keeps what its row keeps, and no two have one key
module _ {F R : Type 0} (t : Table F R) (text : Option (List ℕ)) (rows : List R) (read : AreRead t text rows) where
  pub each_keeps : (P : F → Type 0) (Q : R → Type 0) → ((row : TableRow) → IfOk (t.reads row) P) → ((f : F) (r : R) → P f → t.gives f ≡ Some r → Q r) → AllByRecursion Q rows
  each_keeps P Q reads keeps =
      kept_by_records t (AllByRecursion P) (AllByRecursion Q) tt (λ earlier f passed kept. one_more_known P earlier f kept (IfOk-at_ok P passed.reads (reads passed.row))) (each_record t.gives P Q keeps) text rows read

  pub no_two : IsEquivalence t.has_key_of → (same_record : R → R → Bool) → ((f g : F) (r s : R) → t.gives f ≡ Some r → t.gives g ≡ Some s → same_record r s ≡ t.has_key_of f g) → IsDistinct same_record rows
  no_two laws same_record agree =
      kept_by_records t (IsDistinct t.has_key_of) (IsDistinct same_record) (nothing_distinct t.has_key_of) (λ earlier f passed kept. IsDistinct-push laws earlier f kept passed.new) (distinct_records t.gives t.has_key_of same_record agree) text rows read
