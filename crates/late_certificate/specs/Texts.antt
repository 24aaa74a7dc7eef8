-- The text of a late certificate.
use Rattle.std.specs.Prelude.{◌≡◌, ℕ, List, [], ◌∷◌, ◌++◌, map, Option, Some, None, All}
use Rattle.std.specs.List.{AllByRecursion}
use Rattle.plain_texts.specs.{IsLine, lines_text}
use Rattle.mode_network.specs.{Route}
use Rattle.journey.specs.{HasTimes}
use Rattle.certificate.specs.declared.lines.Line.TheVariants as usual
use Rattle.certificate.specs.{HasLabelTime, label_lines}
use Rattle.latest_departure.specs.{LateClaim}
use Rattle.late_certificate.specs.{declared.lines.Line.Line, Lines.FitsLine, Lines.spelled}
use Rattle.late_certificate.specs.declared.lines.Line.TheVariants as line

-- the head and the query line
abbrev pub front_lines : List ℕ → List Line
front_lines bytes = line.Head ∷ line.Usual (usual.Query bytes) ∷ []

-- the departure, where and when the journey starts, and its steps; or that none is in time
abbrev pub result_lines : Option Route → List Line
result_lines None = line.Usual usual.Nothing ∷ []
result_lines (Some j) = line.Depart j.at ∷ line.Usual (usual.Start j.start j.at) ∷ map line.Usual (map usual.Step j.steps)

-- the lines of a late certificate: behind the result those of any certificate
abbrev pub late_lines : LateClaim → List Line
late_lines c = front_lines c.line ++ (result_lines c.result ++ map line.Usual (label_lines c.labels))

-- the one text of a late certificate
unfoldable pub late_text : LateClaim → List ℕ
late_text c = lines_text (map spelled (late_lines c))

abbrev pub FitsLateResult : Option Route → Type 0
FitsLateResult None = Unit {0}
FitsLateResult (Some j) = HasTimes j

-- the format can hold the certificate: its query line is one line, and its times have at most 30 digits
pub record FitsLate (c : LateClaim) : Type 0 where
  pub line : IsLine c.line
  pub result : FitsLateResult c.result
  pub labels : All HasLabelTime c.labels

-- The bytes are the text of this certificate, each of whose lines says what a line may say.
pub record IsLateText (bytes : List ℕ) (c : LateClaim) : Type 0 where
  pub fits : FitsLate c
  pub lines : AllByRecursion FitsLine (late_lines c)
  pub spelled : bytes ≡ late_text c
