-- How a text is read line by line: each line is read at a place, and leads to the next place; at a last
-- place the text must end. For every kind of lines and of places.
use Rattle.std.specs.Prelude.{◌≡◌, ℕ, ◌+◌, List, [], ◌∷◌, ◌++◌, length, map, Bool, true, false, Option, Some, None, if◌then◌else◌, option_and_then}
use Rattle.std.specs.List.{AllByRecursion}

-- what reading gives: all lines, the number of the first that may not stand where it does, or the number
-- of the line that follows the last
pub data Course (L : Type 0) : Type 0 where
  whole : List L → Course L
  bad : ℕ → Course L
  trailing : ℕ → Course L

abbrev pub onto : {L : Type 0} → L → Course L → Course L
onto l (whole ls) = whole (l ∷ ls)
onto l (bad at) = bad at
onto l (trailing at) = trailing at

-- after the last line nothing follows: the one piece that is left is empty
abbrev pub ended : {L : Type 0} → ℕ → L → List (List ℕ) → Course L
ended at l [] = trailing (at + 1)
ended at l ([] ∷ []) = whole (l ∷ [])
ended at l ((b ∷ bs) ∷ []) = trailing (at + 1)
ended at l (piece ∷ next ∷ more) = trailing (at + 1)

abbrev pub go_on : {L P : Type 0} → (P → Bool) → ℕ → List (List ℕ) → (P → Course L) → Option (L × P) → Course L
go_on is_last at rest others None = bad at
go_on is_last at rest others (Some x) = if is_last x.1 then ended at x.0 rest else onto x.0 (others x.1)

-- The course of the pieces of a text, from a place on, where the first piece is line number `at`. The last
-- piece has no line feed, so it is no line.
abbrev pub lines_from : {L P : Type 0} → (P → List ℕ → Option (L × P)) → (P → Bool) → P → ℕ → List (List ℕ) → Course L
lines_from line_at is_last place at [] = bad at
lines_from line_at is_last place at (piece ∷ []) = bad at
lines_from line_at is_last place at (piece ∷ next ∷ more) =
    go_on is_last at (next ∷ more) (λ p. lines_from line_at is_last p (at + 1) (next ∷ more)) (line_at place piece)

-- the place that lines lead to, if each may stand where it does
abbrev pub run_on : {L P : Type 0} → (P → L → Option P) → Option P → List L → Option P
run_on after p [] = p
run_on after p (l ∷ ls) = run_on after (option_and_then (λ place. after place l) p) ls

-- What a course means, without any reading: `spell` is the one spelling of a line, `Fits l` says that it is
-- a line, and `after p l` is the place behind the line l at the place p, if it may stand there.

-- Some piece is left, and no line that may stand at the place is spelled by the first and ended by a line feed.
abbrev pub CannotStand : {L P : Type 0} → (L → List ℕ) → (L → Type 0) → (P → L → Option P) → P → List (List ℕ) → Type 0
CannotStand spell Fits after p [] = ⊥
CannotStand spell Fits after p (piece ∷ []) = Unit {0}
CannotStand {L} spell Fits after p (piece ∷ next ∷ more) = (l : L) → Fits l → piece ≡ spell l → after p l ≡ None

-- k is the number of the first line that may not stand where it does; the lines before it don't end the text
pub record IsFirstBad {L P : Type 0} (spell : L → List ℕ) (Fits : L → Type 0) (after : P → L → Option P) (is_last : P → Bool) (p : P) (at : ℕ) (ps : List (List ℕ)) (k : ℕ) : Type 0 where
  pub lines : List L
  pub place : P
  pub rest : List (List ℕ)
  pub runs : run_on after (Some p) lines ≡ Some place
  pub not_last : is_last place ≡ false
  pub fits : AllByRecursion Fits lines
  pub are : ps ≡ map spell lines ++ rest
  pub number : k ≡ at + length lines
  pub no_line : CannotStand spell Fits after place rest

-- the pieces are these lines, which lead to a last place, and nothing behind
pub record IsWhole {L P : Type 0} (spell : L → List ℕ) (Fits : L → Type 0) (after : P → L → Option P) (is_last : P → Bool) (p : P) (ps : List (List ℕ)) (lines : List L) : Type 0 where
  pub place : P
  pub runs : run_on after (Some p) lines ≡ Some place
  pub last : is_last place ≡ true
  pub fits : AllByRecursion Fits lines
  pub are : ps ≡ map spell lines ++ [] ∷ []

-- bytes stand behind a line feed
abbrev pub BytesFollow : List (List ℕ) → Type 0
BytesFollow [] = ⊥
BytesFollow ([] ∷ []) = ⊥
BytesFollow ((b ∷ bs) ∷ []) = Unit {0}
BytesFollow (piece ∷ next ∷ more) = Unit {0}

-- k is the number of the line behind a last place, where bytes follow
pub record IsTrailing {L P : Type 0} (spell : L → List ℕ) (Fits : L → Type 0) (after : P → L → Option P) (is_last : P → Bool) (p : P) (at : ℕ) (ps : List (List ℕ)) (k : ℕ) : Type 0 where
  pub lines : List L
  pub place : P
  pub rest : List (List ℕ)
  pub runs : run_on after (Some p) lines ≡ Some place
  pub last : is_last place ≡ true
  pub fits : AllByRecursion Fits lines
  pub are : ps ≡ map spell lines ++ rest
  pub number : k ≡ at + length lines
  pub more : BytesFollow rest
