-- Journeys that set off as late as their first ride lets them.
use Rattle.std.specs.Prelude.{◌≡◌, ℕ, ◌+◌, ◌-◌, ◌<◌, ◌||◌, not, Bool, true, false, List, [], ◌∷◌, ◌++◌, if◌then◌else◌}
use Rattle.mode_network.specs.{Step, Wait, Link, Stand, Ride, Route, declared.steps.Step.TheVariants.Road, NetworkLists.NetworkLists}
use Rattle.search_laws.specs.{time_bound}
use Rattle.journey.specs.{AreOnTime}

abbrev pub is_wait : Step → Bool
is_wait (Wait until) = true
is_wait (Road to) = false
is_wait (Link to) = false
is_wait Stand = false
is_wait (Ride trip day board alight) = false

-- the steps with one more, unless that is a wait before the first ride
abbrev pub with_step_unless_wait : Bool → Step → List Step → List Step
with_step_unless_wait ridden step steps = if ridden || not (is_wait step) then steps ++ step ∷ [] else steps

-- the steps without the waits that stand before their first ride
abbrev pub unwaited : List Step → List Step
unwaited [] = []
unwaited (Wait until ∷ steps) = unwaited steps
unwaited (Road to ∷ steps) = Road to ∷ unwaited steps
unwaited (Link to ∷ steps) = Link to ∷ unwaited steps
unwaited (Stand ∷ steps) = Stand ∷ unwaited steps
unwaited (Ride trip day board alight ∷ steps) = Ride trip day board alight ∷ steps

-- how long a step waits that is taken at t
abbrev pub waiting : Step → ℕ → ℕ
waiting (Wait until) t = until - t
waiting (Road to) t = 0
waiting (Link to) t = 0
waiting Stand t = 0
waiting (Ride trip day board alight) t = 0

-- who takes the steps from v at t may leave later by so much, and then does not wait before the first ride
abbrev pub MayLeaveLater : NetworkLists → ℕ → ℕ → List Step → ℕ → Type 0
MayLeaveLater n v t steps later = (w u : ℕ) (letters : List ℕ) → AreOnTime n v t steps w u letters → AreOnTime n v (t + later) (unwaited steps) w u letters

-- the journey k is j without the waits before its first ride, and leaves later by as long
pub record IsSetOff (n : NetworkLists) (j k : Route) : Type 0 where
  pub start : k.start ≡ j.start
  pub steps : k.steps ≡ unwaited j.steps
  pub later : ℕ
  pub at : k.at ≡ j.at + later
  pub leaves : MayLeaveLater n j.start j.at j.steps later
  pub soon : k.at < time_bound
