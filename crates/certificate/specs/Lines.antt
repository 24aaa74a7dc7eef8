-- The lines of a certificate text, in words.
use Rattle.std.specs.Prelude.{ℕ, ◌<◌, ◌^◌, List, [], ◌∷◌, Bool, if◌then◌else◌, codes, decimal}
use Rattle.plain_texts.specs.{spaced}
use Rattle.mode_network.specs.{Step, Wait, Link, Stand, Ride, declared.steps.Step.TheVariants.Road}
use Rattle.search_laws.specs.{time_bound}
use Rattle.product_search.specs.{Label}
pub use Rattle.certificate.specs.declared.lines.Line.{Line}
use Rattle.certificate.specs.declared.lines.Line.TheVariants as line

abbrev pub graph_name : Bool → List ℕ
graph_name phases = if phases then codes "phases" else codes "plain"

abbrev pub step_words : Step → List (List ℕ)
step_words (Wait until) = codes "wait" ∷ decimal until ∷ []
step_words (Road to) = codes "road" ∷ decimal to ∷ []
step_words (Link to) = codes "link" ∷ decimal to ∷ []
step_words Stand = codes "stand" ∷ []
step_words (Ride trip day board alight) = codes "ride" ∷ decimal trip ∷ decimal day ∷ decimal board ∷ decimal alight ∷ []

abbrev pub label_words : Label → List (List ℕ)
label_words l = decimal l.node ∷ decimal l.state ∷ decimal l.at ∷ []

-- the words of a line; those of the query line stand as one
abbrev pub words : Line → List (List ℕ)
words line.Head = codes "modeplan" ∷ codes "certificate" ∷ codes "1" ∷ []
words (line.Query bytes) = codes "query" ∷ bytes ∷ []
words (line.Graph phases) = codes "graph" ∷ graph_name phases ∷ []
words (line.Arrive at) = codes "arrive" ∷ decimal at ∷ []
words line.Nothing = codes "none" ∷ []
words (line.Start node at) = codes "start" ∷ decimal node ∷ decimal at ∷ []
words (line.Step step) = step_words step
words (line.Labels count) = codes "labels" ∷ decimal count ∷ []
words (line.Label label) = label_words label
words line.End = codes "end" ∷ []

-- words with one space between each two
abbrev pub spelled : Line → List ℕ
spelled l = spaced (words l)

-- Times have at most 30 digits.
abbrev pub IsTime : ℕ → Type 0
IsTime t = t < time_bound

-- the time of a label is one
abbrev pub HasLabelTime : Label → Type 0
HasLabelTime label = IsTime label.at

-- Trips, days and calls are counted, below 2 ^ 32.
pub record FitsRide (run date on off : ℕ) : Type 0 where
  pub trip : run < 2 ^ 32
  pub day : date < 2 ^ 32
  pub board : on < 2 ^ 32
  pub alight : off < 2 ^ 32

-- Node numbers are below 2 ^ 32.
abbrev pub FitsStep : Step → Type 0
FitsStep (Wait until) = IsTime until
FitsStep (Road to) = to < 2 ^ 32
FitsStep (Link to) = to < 2 ^ 32
FitsStep Stand = Unit {0}
FitsStep (Ride trip day board alight) = FitsRide trip day board alight

-- Node and state numbers are below 2 ^ 32.
pub record FitsLabel (label : Label) : Type 0 where
  pub node : label.node < 2 ^ 32
  pub state : label.state < 2 ^ 32
  pub at : IsTime label.at

-- what a line may say; the query line says any bytes
abbrev pub FitsLine : Line → Type 0
FitsLine line.Head = Unit {0}
FitsLine (line.Query bytes) = Unit {0}
FitsLine (line.Graph phases) = Unit {0}
FitsLine (line.Arrive at) = IsTime at
FitsLine line.Nothing = Unit {0}
FitsLine (line.Start node at) = (node < 2 ^ 32) × IsTime at
FitsLine (line.Step step) = FitsStep step
FitsLine (line.Labels count) = count < 2 ^ 64
FitsLine (line.Label label) = FitsLabel label
FitsLine line.End = Unit {0}
