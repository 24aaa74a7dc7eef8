-- The query lines of a queries file.
use Rattle.std.specs.Prelude.{ℕ, ◌==◌, ◌-◌, List, [], ◌∷◌, ◌++◌, length, take, Option, Some, None, if◌then◌else◌, option_to_list, nat_lt, ◌&&◌, slice_index}
use Rattle.plain_texts.specs.{lines_of}

-- a line without the carriage return at its end, if one stands there
abbrev pub without_return : List ℕ → List ℕ
without_return line =
    if nat_lt 0 (length line) && (slice_index line (length line - 1) == 13) then take (length line - 1) line else line

-- a line that is not empty and does not begin with `#`
abbrev pub as_query : List ℕ → Option (List ℕ)
as_query [] = None
as_query (b ∷ bytes) = if b == 35 then None else Some (b ∷ bytes)

abbrev pub queries_among : List (List ℕ) → List (List ℕ)
queries_among [] = []
queries_among (line ∷ lines) = option_to_list (as_query (without_return line)) ++ queries_among lines

-- the query lines of a queries file
abbrev pub query_lines : List ℕ → List (List ℕ)
query_lines text = queries_among (lines_of text)
