-- What a line says, read word by word.
use Rattle.std.specs.Prelude.{ℕ, List, [], ◌∷◌, codes, Bool, Option, Some, None, option_map, ◌&&◌, if◌then◌else◌, bytes_eq}
use Rattle.plain_texts.specs.{words_of}
use Rattle.certificate.specs.{Line as UsualLine, time_of_word}
use Rattle.certificate.specs.Kinds as usual
use Rattle.late_certificate.specs.declared.lines.Line.{Line}
use Rattle.late_certificate.specs.declared.lines.Line.TheVariants as line

-- a late certificate, in the first format
abbrev pub is_head : List ℕ → List ℕ → List ℕ → Bool
is_head program what version = bytes_eq program (codes "modeplan") && bytes_eq what (codes "late") && bytes_eq version (codes "1")

abbrev pub depart_of_words : List ℕ → List ℕ → Option Line
depart_of_words kind at = if bytes_eq kind (codes "depart") then option_map (λ time. line.Depart time) (time_of_word at) else None

-- the lines that only a late certificate has
unfoldable pub own_of_words : List (List ℕ) → Option Line
own_of_words (program ∷ what ∷ version ∷ []) = if is_head program what version then Some line.Head else None
own_of_words (kind ∷ at ∷ []) = depart_of_words kind at
own_of_words _ = None

abbrev pub usual_or_own : Option UsualLine → List ℕ → Option Line
usual_or_own (Some said) text = Some (line.Usual said)
usual_or_own None text = own_of_words (words_of text)

-- the line that a text spells: one that any certificate may have, or one of its own
unfoldable pub line_of : List ℕ → Option Line
line_of text = usual_or_own (usual.line_of text) text
