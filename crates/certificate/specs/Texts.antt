-- The text of a certificate.
use Rattle.std.specs.Prelude.{◌≡◌, ℕ, List, [], ◌∷◌, ◌++◌, length, map, Bool, Option, Some, None, All}
use Rattle.std.specs.List.{AllByRecursion}
use Rattle.plain_texts.specs.{IsLine, lines_text}
use Rattle.mode_network.specs.{Route}
use Rattle.journey.specs.{HasTimes}
use Rattle.product_search.specs.{Label}
use Rattle.certificate.specs.{declared.lines.Line.Line, Certificates.Claim, Lines.FitsLine, Lines.HasLabelTime, Lines.IsTime, Lines.spelled}
use Rattle.certificate.specs.declared.lines.Line.TheVariants as line

-- the arrival, and where and when the journey starts and its steps; or that there is none
abbrev pub result_lines : Option (ℕ × Route) → List Line
result_lines None = line.Nothing ∷ []
result_lines (Some answer) = line.Arrive answer.0 ∷ line.Start answer.1.start answer.1.at ∷ map line.Step answer.1.steps

-- how many labels there are, then these, and the end
abbrev pub label_lines : List Label → List Line
label_lines labels = line.Labels (length labels) ∷ (map line.Label labels ++ line.End ∷ [])

-- the head, the query line, and whether the labels are of phases
abbrev pub front_lines : List ℕ → Bool → List Line
front_lines bytes phases = line.Head ∷ line.Query bytes ∷ line.Graph phases ∷ []

-- the lines of a certificate
abbrev pub cert_lines : Claim → List Line
cert_lines c = front_lines c.line c.phases ++ (result_lines c.result ++ label_lines c.labels)

-- the one text of a certificate
unfoldable pub cert_text : Claim → List ℕ
cert_text c = lines_text (map spelled (cert_lines c))

abbrev pub FitsResult : Option (ℕ × Route) → Type 0
FitsResult None = Unit {0}
FitsResult (Some answer) = IsTime answer.0 × HasTimes answer.1

-- the format can hold the certificate: its query line is one line, and its times have at most 30 digits
pub record FitsCertificate (c : Claim) : Type 0 where
  pub line : IsLine c.line
  pub result : FitsResult c.result
  pub labels : All HasLabelTime c.labels

-- The bytes are the text of this certificate, each of whose lines says what a line may say.
pub record IsCertText (bytes : List ℕ) (c : Claim) : Type 0 where
  pub fits : FitsCertificate c
  pub lines : AllByRecursion FitsLine (cert_lines c)
  pub spelled : bytes ≡ cert_text c
