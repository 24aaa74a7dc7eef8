-- The rows of a table of times: one for each origin and each destination.
use Rattle.std.specs.Prelude.{◌≡◌, ℕ, List, ◌∷◌, ◌++◌, Option}
use Rattle.plain_texts.specs.{with_feed}
use Rattle.mode_network.specs.NetworkLists.{NetworkLists}
use Rattle.run_steps.specs.{AreBlocks}
use Rattle.matrix_commands.specs.Cells.{query_line_of, IsCell}

-- the two lines as they stand and a value, with a tabulator between each two
abbrev pub row_text : (from to value : List ℕ) → List ℕ
row_text from to value = with_feed (from ++ 9 ∷ to ++ 9 ∷ value)

-- the row of an origin and a destination
pub record IsMatrixRow (n : NetworkLists) (places : Option ℕ) (date time expr from to row : List ℕ) : Type 0 where
  pub value : List ℕ
  pub is : IsCell n places (query_line_of date time expr from to) value
  pub row_is : row ≡ row_text from to value

-- the rows of an origin: one for each destination, in order
abbrev pub AreRowsOf : NetworkLists → (places : Option ℕ) → (destinations : List (List ℕ)) → (date time expr from rows : List ℕ) → Type 0
AreRowsOf n places destinations date time expr from rows = AreBlocks (IsMatrixRow n places date time expr from) destinations rows
