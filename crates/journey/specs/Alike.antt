-- When two journeys go the same way, and that a block tells which way its journey goes.
use Rattle.std.specs.Prelude.{◌≡◌, ℕ, ◌^◌, ◌<◌, List, [], ◌∷◌, length, Option}
use Rattle.mode_network.specs.{Step, Route, IsStep, NetworkLists.NetworkLists}
use Rattle.journey.specs.{declared.answer.BlockBody.TheVariants.Journey, Rides.KeepsRules, Blocks.IsPrintable, Blocks.IsBlockText, Best.IsRightBody}

-- where and when a step ends, and with which letter
pub record EndOfStep : Type 0 where
  pub node : ℕ
  pub at : ℕ
  pub letter : Option ℕ

-- the ends of steps that are taken from v at t
abbrev pub AreStepEnds : NetworkLists → ℕ → ℕ → List Step → List EndOfStep → Type 0
AreStepEnds n v t [] ends = ends ≡ []
AreStepEnds n v t (step ∷ steps) ends =
    (end : EndOfStep) × (rest : List EndOfStep) × IsStep n v t step end.node end.at end.letter × AreStepEnds n end.node end.at steps rest × (ends ≡ end ∷ rest)

-- The journeys start at one node at one time, and step by step they have the same nodes, times and letters. Which trip a
-- ride is of, and where it boards, may differ.
pub record AreAlikeJourneys (n : NetworkLists) (j k : Route) : Type 0 where
  pub start : j.start ≡ k.start
  pub at : j.at ≡ k.at
  pub ends : List EndOfStep
  pub of_one : AreStepEnds n j.start j.at j.steps ends
  pub of_other : AreStepEnds n k.start k.at k.steps ends

-- a real journey from a node, whose times are below 10 ^ 30, and which has fewer than 2 ^ 64 steps
pub record FitsInCertificate (n : NetworkLists) (j : Route) : Type 0 where
  pub printable : IsPrintable n j
  pub few : length j.steps < 2 ^ 64

-- two journeys with one block are alike
abbrev pub BlockFixesItsJourney : Type 0
BlockFixesItsJourney = (n : NetworkLists) → KeepsRules n → (line block : List ℕ) (j k : Route) → FitsInCertificate n j → FitsInCertificate n k
    → IsBlockText n line (Journey j) block → IsBlockText n line (Journey k) block → AreAlikeJourneys n j k

-- so each journey whose block is that of a best one is a best one
abbrev pub EachPrintedIsBest : Type 0
EachPrintedIsBest = (n : NetworkLists) → KeepsRules n → (line block : List ℕ) (j k : Route) → FitsInCertificate n j → FitsInCertificate n k
    → IsRightBody n line (Journey j) → IsBlockText n line (Journey j) block → IsBlockText n line (Journey k) block → IsRightBody n line (Journey k)
