-- Whether the steps of a journey are steps of the network, where it ends, and its word.
use Rattle.std.specs.Prelude.{◌≡◌, ℕ, List, Option, Some, None, Result, Ok, Err, take, slice_get}
use Rattle.search_laws.specs.{collapse}
use Rattle.mode_network.specs.{Step, Route, IsStep, AreSteps, IsJourney, NetworkLists.NetworkLists}
use Rattle.journey.specs.Ends.{AreTaken}

-- the step at this place is the first that is none: those before it can be taken from v at t, and it can not where and when they end
pub record IsFirstBad (n : NetworkLists) (v t : ℕ) (steps : List Step) (place : ℕ) : Type 0 where
  pub node : ℕ
  pub at : ℕ
  pub letters : List ℕ
  pub step : Step
  pub before : AreSteps n v t (take place steps) node at letters
  pub step_is : slice_get steps place ≡ Some step
  pub bad : (w u : ℕ) (letter : Option ℕ) → IsStep n node at step w u letter → ⊥

-- each step of the journey is a step of the network, from where and when the one before it ended
abbrev pub IsReal : NetworkLists → Route → Type 0
IsReal n j = AreTaken n j.start j.at j.steps

-- the first step that is none; or there is no such step, and the journey is real
abbrev pub FirstBad : NetworkLists → Route → Option ℕ → Type 0
FirstBad n j (Some place) = IsFirstBad n j.start j.at j.steps place
FirstBad n j None = IsReal n j

-- where and when the steps from v at t end; or the first that is none
abbrev pub IsWalked : NetworkLists → ℕ → ℕ → List Step → Result (ℕ × ℕ) ℕ → Type 0
IsWalked n v t steps (Ok end) = (letters : List ℕ) × AreSteps n v t steps end.0 end.1 letters
IsWalked n v t steps (Err place) = IsFirstBad n v t steps place

-- where the step leads from v and which letter it has, whenever it is taken
abbrev pub AlwaysLeadsTo : NetworkLists → ℕ → Step → ℕ → Option ℕ → Type 0
AlwaysLeadsTo n v step node letter = (t w u : ℕ) (c : Option ℕ) → IsStep n v t step w u c → (w ≡ node) × (c ≡ letter)

-- the journey is real, and ends at this node at this time
abbrev pub EndsAt : NetworkLists → Route → ℕ → ℕ → Type 0
EndsAt n j w u = (word : List ℕ) × IsJourney n j w u word

-- the steps can be taken from v at t, and this is their word
pub record IsSpelt (n : NetworkLists) (v t : ℕ) (steps : List Step) (word : List ℕ) : Type 0 where
  pub end : ℕ
  pub arrival : ℕ
  pub letters : List ℕ
  pub are : AreSteps n v t steps end arrival letters
  pub word_is : word ≡ collapse letters

-- the journey is real, and has this word
abbrev pub HasWord : NetworkLists → Route → List ℕ → Type 0
HasWord n j word = (w : ℕ) × (u : ℕ) × IsJourney n j w u word
