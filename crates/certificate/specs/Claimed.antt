-- Clauses 3 to 5 of a certificate: of the journey that is claimed.
use Rattle.std.specs.Prelude.{◌≡◌, ℕ, ◌≤◌, ◌⊎◌, List, Option, Some, None}
use Rattle.mode_expression.specs.{IsWordOf}
use Rattle.mode_network.specs.{NetworkLists.NetworkLists, Route, IsJourney, IsCopy}
pub use Rattle.certificate.specs.{declared.verdict.CertVerdict.CertVerdict, declared.verdict.CertVerdict.TheVariants.Valid, declared.verdict.CertVerdict.TheVariants.Invalid, declared.claimed.Arrival.Arrival, declared.claimed.Arrival.TheVariants.At, declared.claimed.Arrival.TheVariants.By, declared.claimed.Goal.Goal}
use Rattle.journey.specs.{IsFirstBad, Asked}

-- one who arrives at t arrives as is claimed
abbrev pub IsTimely : Arrival → ℕ → Type 0
IsTimely (At arrival) t = t ≡ arrival
IsTimely (By deadline) t = t ≤ deadline

-- the journey starts at a copy of the origin, no earlier than is claimed
pub record StartsWell (n : NetworkLists) (q : Asked) (goal : Goal) (j : Route) : Type 0 where
  pub at_copy : IsCopy n q.from j.start
  pub not_before : goal.earliest ≤ j.at

pub record StartFails (n : NetworkLists) (q : Asked) (goal : Goal) (j : Route) (clause at : ℕ) : Type 0 where
  pub clause_is : clause ≡ 3
  pub place : at ≡ 0
  pub fails : StartsWell n q goal j → ⊥

-- the step at this place is the first that is none
pub record StepFails (n : NetworkLists) (q : Asked) (goal : Goal) (j : Route) (clause at : ℕ) : Type 0 where
  pub clause_is : clause ≡ 4
  pub starts : StartsWell n q goal j
  pub bad : IsFirstBad n j.start j.at j.steps at

-- the first of three facts that fails has this place, from 0
abbrev pub FailsFirstOfThree : Type 0 → Type 0 → Type 0 → ℕ → Type 0
FailsFirstOfThree P Q R at = ((at ≡ 0) × (P → ⊥)) ⊎ ((at ≡ 1) × P × (Q → ⊥)) ⊎ ((at ≡ 2) × P × Q × (R → ⊥))

-- the place of the first of three facts that fails; or all hold
abbrev pub IsFirstFailing : Type 0 → Type 0 → Type 0 → Option ℕ → Type 0
IsFirstFailing P Q R (Some at) = FailsFirstOfThree P Q R at
IsFirstFailing P Q R None = P × Q × R

-- the journey is real, but ends at no copy of the destination, or arrives otherwise than is claimed, or has a word that is not denoted
pub record EndFails (n : NetworkLists) (q : Asked) (goal : Goal) (j : Route) (clause at : ℕ) : Type 0 where
  pub clause_is : clause ≡ 5
  pub starts : StartsWell n q goal j
  pub end : ℕ
  pub time : ℕ
  pub word : List ℕ
  pub real : IsJourney n j end time word
  pub bad : FailsFirstOfThree (IsCopy n q.to end) (IsTimely goal.arrival time) (IsWordOf q.form word) at

abbrev pub JourneyFails : NetworkLists → Asked → Goal → Route → ℕ → ℕ → Type 0
JourneyFails n q goal j clause at = StartFails n q goal j clause at ⊎ StepFails n q goal j clause at ⊎ EndFails n q goal j clause at

-- the journey is real, starts and ends at copies of what is asked, when it is claimed to, and the expression denotes its word
pub record IsAsClaimed (n : NetworkLists) (q : Asked) (goal : Goal) (j : Route) : Type 0 where
  pub starts : StartsWell n q goal j
  pub end : ℕ
  pub time : ℕ
  pub word : List ℕ
  pub real : IsJourney n j end time word
  pub ends_at_copy : IsCopy n q.to end
  pub timely : IsTimely goal.arrival time
  pub denoted : IsWordOf q.form word

-- the verdict on a journey that is claimed
abbrev pub IsClaimVerdict : NetworkLists → Asked → Goal → Route → CertVerdict → Type 0
IsClaimVerdict n q goal j Valid = IsAsClaimed n q goal j
IsClaimVerdict n q goal j (Invalid clause at) = JourneyFails n q goal j clause at
