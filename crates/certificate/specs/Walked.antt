-- A journey that was walked: where and when it ends, and the states that its letters are read to.
use Rattle.std.specs.Prelude.{ℕ, List, Result, Ok, Err}
use Rattle.search_laws.specs.{LabelsMeaning}
use Rattle.mode_network.specs.{Step, AreSteps, NetworkLists.NetworkLists}
use Rattle.journey.specs.{IsFirstBad}
pub use Rattle.certificate.specs.declared.walked.Walked.{Walked}
use Rattle.certificate.specs.StateSets.{AreAfter}

-- the steps from v at t end so, and these are the states after their letters
pub record IsWalkedTo (n : NetworkLists) (l : LabelsMeaning) (v t : ℕ) (steps : List Step) (walked : Walked) : Type 0 where
  pub letters : List ℕ
  pub are : AreSteps n v t steps walked.node walked.at letters
  pub states : AreAfter l letters walked.states

-- all steps were walked; or the step at this place is the first that is none
abbrev pub IsWalkedThrough : NetworkLists → LabelsMeaning → ℕ → ℕ → List Step → Result Walked ℕ → Type 0
IsWalkedThrough n l v t steps (Ok walked) = IsWalkedTo n l v t steps walked
IsWalkedThrough n l v t steps (Err place) = IsFirstBad n v t steps place
