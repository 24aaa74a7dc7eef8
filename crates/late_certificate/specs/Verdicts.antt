-- The first clause of a late certificate that fails, at the first place where it does.
use Rattle.std.specs.Prelude.{◌≡◌, ℕ, ◌⊎◌, List, Option, Some, None, IfSome, All}
use Rattle.product_search.specs.{Label, Open, IsVerdict}
use Rattle.mode_network.specs.{NetworkLists.NetworkLists, IsNetwork, Route}
use Rattle.journey.specs.{Query, HasTimes, Asked, Asks}
use Rattle.certificate.specs.{CertVerdict, Invalid, HasLabelTime, By, Goal, JourneyFails, LineFails, declared.verdict.CertVerdict.TheVariants.Valid}
use Rattle.latest_departure.specs.{deadline, first_moment, IsInTime, graph_of, labels_of, LateClaim, LateSetting, LateHolds, late_bound, IsValidLate}

-- what is claimed of a query
abbrev pub claim_on : Query → Option Route → List Label → LateClaim
claim_on q result labels = record { line = q.line; result = result; labels = labels }

-- the times of a late certificate are below 10 ^ 30
pub record HaveTimes (c : LateClaim) : Type 0 where
  pub result : IfSome c.result HasTimes
  pub labels : All HasLabelTime c.labels

-- ---- clauses 3 to 5: of the journey that is claimed

-- it starts on the region's first date or later, and arrives by the deadline
abbrev pub goal_of : NetworkLists → Asked → Goal
goal_of n q = record { earliest = first_moment n; arrival = By (deadline q) }

-- the verdict on a journey that is claimed
abbrev pub IsJourneyVerdict : NetworkLists → Asked → Route → CertVerdict → Type 0
IsJourneyVerdict n q j Valid = IsInTime n q j
IsJourneyVerdict n q j (Invalid clause at) = JourneyFails n q (goal_of n q) j clause at

-- the verdict on a result, which is skipped where it is claimed that none is in time
abbrev pub IsResultVerdict : NetworkLists → Asked → Option Route → CertVerdict → Type 0
IsResultVerdict n q (Some j) verdict = IsJourneyVerdict n q j verdict
IsResultVerdict n q None verdict = verdict ≡ Valid

pub record ResultFails (n : NetworkLists) (c : LateClaim) (clause at : ℕ) : Type 0 where
  pub asked : Asked
  pub asks : Asks n c.line asked
  pub fails : IsResultVerdict n asked c.result (Invalid clause at)

-- ---- clauses 6 to 9: of the labels

pub record LabelsFail (n : NetworkLists) (c : LateClaim) (clause at : ℕ) : Type 0 where
  pub setting : LateSetting n c.line
  pub holds : LateHolds n setting.asked c.result
  pub open_at : IsVerdict (graph_of n setting.asked setting.over) (labels_of n setting.asked setting.over) setting.over.starts setting.over.targets 0
      (Some (late_bound n setting.asked c.result)) c.labels (Open clause at)

-- ---- all

-- The certificate is valid; or the clause is the first that fails, at its first place.
abbrev pub IsLateVerdict : NetworkLists → LateClaim → CertVerdict → Type 0
IsLateVerdict n c Valid = IsValidLate n c
IsLateVerdict n c (Invalid clause at) = LineFails n c.line clause at ⊎ ResultFails n c clause at ⊎ LabelsFail n c clause at

-- a late certificate has one verdict: it is valid, or one clause is the first that fails, at one place
abbrev pub LateVerdictIsUnique : Type 0
LateVerdictIsUnique = (n : NetworkLists) → IsNetwork n → (c : LateClaim) (one other : CertVerdict) → IsLateVerdict n c one → IsLateVerdict n c other → one ≡ other
