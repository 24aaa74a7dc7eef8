-- The lines of a text, and the words of a line.
use Rattle.std.specs.Prelude.{◌≡◌, ◌<◌, false, All, ℕ, ◌+◌, List, [], ◌∷◌, ◌++◌, take, drop, Bool, Option, Some, None, option_map, unwrap_or, position, ◌==◌}
use Rattle.std.specs.List.{slice_split, join_with_byte}

abbrev pub is_feed : ℕ → Bool
is_feed b = b == 10

abbrev pub is_space : ℕ → Bool
is_space b = b == 32

-- What stands before, between and behind the line feeds. Each piece but the last is a line that ends in
-- its line feed.
unfoldable pub pieces : List ℕ → List (List ℕ)
pieces text = slice_split is_feed text

-- The last piece is a line too, if it is not empty.
abbrev pub lines_of_pieces : List (List ℕ) → List (List ℕ)
lines_of_pieces [] = []
lines_of_pieces ([] ∷ []) = []
lines_of_pieces ((b ∷ bs) ∷ []) = (b ∷ bs) ∷ []
lines_of_pieces (piece ∷ next ∷ more) = piece ∷ lines_of_pieces (next ∷ more)

-- The lines of a text: each ends in a line feed or at the end of the text, and no empty last line stands
-- behind the last line feed.
unfoldable pub lines_of : List ℕ → List (List ℕ)
lines_of text = lines_of_pieces (pieces text)

-- A line has no line feed in it.
abbrev pub IsLine : List ℕ → Type 0
IsLine line = All (λ b. is_feed b ≡ false) line

-- a word of printed bytes: no space, no line feed and no other control character
abbrev pub IsWord : List ℕ → Type 0
IsWord word = All (λ b. 32 < b) word

-- a line and its line feed
abbrev pub with_feed : List ℕ → List ℕ
with_feed line = line ++ 10 ∷ []

-- lines one below the other, each with its line feed
abbrev pub lines_text : List (List ℕ) → List ℕ
lines_text [] = []
lines_text (line ∷ lines) = with_feed line ++ lines_text lines

-- what stands before a byte, and what stands behind it
abbrev pub around : List ℕ → ℕ → List ℕ × List ℕ
around text at = (take at text, drop (at + 1) text)

-- the first line, if it ends in a line feed, and what stands behind that
unfoldable pub next_line_of : List ℕ → Option (List ℕ × List ℕ)
next_line_of text = option_map (around text) (position is_feed text)

-- the first line, which may also end with the text, and what stands behind it
unfoldable pub split_line_of : List ℕ → Option (List ℕ × List ℕ)
split_line_of [] = None
split_line_of (b ∷ bs) = Some (unwrap_or (next_line_of (b ∷ bs)) (b ∷ bs, []))

-- the words of a line, parted by one space each
unfoldable pub words_of : List ℕ → List (List ℕ)
words_of line = slice_split is_space line

-- words with one space between each two
unfoldable pub spaced : List (List ℕ) → List ℕ
spaced words = join_with_byte 32 words
