-- Where and when a step ends.
use Rattle.std.specs.Prelude.{ℕ, ◌<◌, List, Option, Some, None, All}
use Rattle.mode_network.specs.{Step, Wait, Link, Stand, Ride, Route, IsStep, AreSteps, declared.steps.Step.TheVariants.Road, NetworkLists.NetworkLists}
use Rattle.search_laws.specs.{time_bound}
pub use Rattle.journey.specs.declared.step_ends.StepEnd.{StepEnd}

-- where, when and with which letter the step ends that is taken from v at t; or there is no such step
abbrev pub IsStepEnd : NetworkLists → ℕ → ℕ → Step → Option StepEnd → Type 0
IsStepEnd n v t step (Some end) = IsStep n v t step end.node end.at end.letter
IsStepEnd n v t step None = (w u : ℕ) (letter : Option ℕ) → IsStep n v t step w u letter → ⊥

-- a wait is not past all times that are counted
abbrev pub HasTime : Step → Type 0
HasTime (Wait until) = until < time_bound
HasTime (Road to) = Unit {0}
HasTime (Link to) = Unit {0}
HasTime Stand = Unit {0}
HasTime (Ride trip day board alight) = Unit {0}

-- the times of a journey, its start and its waits, are below 10 ^ 30
pub record HasTimes (j : Route) : Type 0 where
  pub at : j.at < time_bound
  pub waits : All HasTime j.steps

-- the steps can be taken from v at t
pub record AreTaken (n : NetworkLists) (v t : ℕ) (steps : List Step) : Type 0 where
  pub end : ℕ
  pub arrival : ℕ
  pub letters : List ℕ
  pub are : AreSteps n v t steps end arrival letters
