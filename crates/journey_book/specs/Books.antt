-- A book: what is kept under each name.
use Rattle.std.specs.Prelude.{◌≡◌, ℕ, List, Option, None, Some, is_some, bytes_eq}
use Rattle.std.specs.List.{list_any}
use Rattle.std.specs.List.Sorted.{IsStrictlySortedBy}
use Rattle.std.specs.Map.{update}
use Rattle.std.specs.Cmp.Lexicographic.{slice_cmp}
use Rattle.std.specs.Ordering.{nat_cmp}

-- the bytes that are kept under each name
abbrev pub Book : Type 0
Book = List ℕ → Option (List ℕ)

-- the name has these bytes, and each other name keeps its own
abbrev pub kept : List ℕ → List ℕ → Book → Book
kept name body book = update bytes_eq book name (Some body)

-- the name is gone, and each other name keeps its own
abbrev pub dropped : List ℕ → Book → Book
dropped name book = update bytes_eq book name None

-- all names of a book, each once, ascending by bytes
pub record AreNamesOf (book : Book) (names : List (List ℕ)) : Type 0 where
  pub ascend : IsStrictlySortedBy (λ a b. slice_cmp nat_cmp a b) names
  pub all : (name : List ℕ) → list_any (bytes_eq name) names ≡ is_some (book name)
