-- Rides that are boarded when they depart.
use Rattle.std.specs.Prelude.{◌≡◌, ℕ, List, [], ◌∷◌, ◌++◌, Option, option_to_list, slice_index_or}
use Rattle.timetable_arcs.specs.{departure_of, no_trip, no_call}
use Rattle.mode_network.specs.{Step, Wait, Link, Stand, Ride, Route, IsStep, AreSteps, declared.steps.Step.TheVariants.Road, NetworkLists.NetworkLists}

-- the step is no ride, or one that departs at t
abbrev pub DepartsAt : NetworkLists → ℕ → Step → Type 0
DepartsAt n t (Wait until) = Unit {0}
DepartsAt n t (Road to) = Unit {0}
DepartsAt n t (Link to) = Unit {0}
DepartsAt n t Stand = Unit {0}
DepartsAt n t (Ride trip day board alight) =
    t ≡ departure_of n.days.bases day (slice_index_or (slice_index_or n.trips trip no_trip).calls board no_call)

-- the steps lead from v at t to w at u, these are their letters, and each ride is boarded when it departs
abbrev pub AreOnTime : NetworkLists → ℕ → ℕ → List Step → ℕ → ℕ → List ℕ → Type 0
AreOnTime n v t [] w u letters = AreSteps n v t [] w u letters
AreOnTime n v t (step ∷ steps) w u letters =
    (v1 : ℕ) × (t1 : ℕ) × (letter : Option ℕ) × (rest : List ℕ)
    × IsStep n v t step v1 t1 letter × DepartsAt n t step × AreOnTime n v1 t1 steps w u rest × (letters ≡ option_to_list letter ++ rest)

-- each ride of the journey is boarded when it departs: where one is at the stop earlier, a wait until then stands before it
pub record BoardsOnTime (n : NetworkLists) (j : Route) : Type 0 where
  pub end : ℕ
  pub arrival : ℕ
  pub letters : List ℕ
  pub are : AreOnTime n j.start j.at j.steps end arrival letters
