-- The lines of a late certificate's text, in words.
use Rattle.std.specs.Prelude.{ℕ, List, [], ◌∷◌, codes, decimal}
use Rattle.plain_texts.specs.{spaced}
use Rattle.certificate.specs.{IsTime}
use Rattle.certificate.specs.Lines as usual
pub use Rattle.late_certificate.specs.declared.lines.Line.{Line}
use Rattle.late_certificate.specs.declared.lines.Line.TheVariants as line

abbrev pub words : Line → List (List ℕ)
words line.Head = codes "modeplan" ∷ codes "late" ∷ codes "1" ∷ []
words (line.Depart at) = codes "depart" ∷ decimal at ∷ []
words (line.Usual said) = usual.words said

-- words with one space between each two
abbrev pub spelled : Line → List ℕ
spelled l = spaced (words l)

-- what a line may say
abbrev pub FitsLine : Line → Type 0
FitsLine line.Head = Unit {0}
FitsLine (line.Depart at) = IsTime at
FitsLine (line.Usual said) = usual.FitsLine said
