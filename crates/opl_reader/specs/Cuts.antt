-- How a line is cut.
use Rattle.std.specs.Prelude.{ℕ, List, position, Bool, ◌==◌, ◌||◌, Option, option_map}
use Rattle.std.specs.List.{slice_split}
use Rattle.plain_texts.specs.{around}

abbrev pub is_byte : ℕ → ℕ → Bool
is_byte byte b = b == byte

-- a space or a tab
abbrev pub is_blank : ℕ → Bool
is_blank b = b == 32 || b == 9

-- what stands before the first such byte and what stands behind it, if there is one
unfoldable pub cut_of : ℕ → List ℕ → Option (List ℕ × List ℕ)
cut_of byte text = option_map (around text) (position (is_byte byte) text)

-- what stands before, between and behind the commas
unfoldable pub at_commas : List ℕ → List (List ℕ)
at_commas text = slice_split (is_byte 44) text

-- what stands before, between and behind the blanks
unfoldable pub at_blanks : List ℕ → List (List ℕ)
at_blanks text = slice_split is_blank text
