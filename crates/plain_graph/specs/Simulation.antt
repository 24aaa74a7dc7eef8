-- The walks of the graph of a network are its journeys.
use Rattle.std.specs.Prelude.{◌≡◌, ℕ, ◌≤◌, List, Option, Some, option_map}
use Rattle.search_laws.specs.{HasArc, WalkStep, IsWalk, word_from}
use Rattle.timetable_arcs.specs.{Instance, TableLists}
use Rattle.mode_network.specs.{Step, Wait, Link as TakeLink, Stand as StandStill, Ride as TakeRide, IsStep, AreSteps, declared.steps.Step.TheVariants.Road as TakeRoad, NetworkLists.NetworkLists}
use Rattle.plain_graph.specs.{declared.plain.PlainArc.PlainArc, declared.plain.PlainArc.TheVariants.Road, declared.plain.PlainArc.TheVariants.Link, declared.plain.PlainArc.TheVariants.Stand, declared.plain.PlainArc.TheVariants.Ride, PlainArcs.plain_meaning, PlainArcs.run_at}

-- the step of a journey that takes the arc at a time; none where no run makes the ride any more
abbrev pub step_of : TableLists → ℕ → PlainArc → Option Step
step_of t time (Road arc) = Some (TakeRoad arc.to)
step_of t time (Link link) = Some (TakeLink link.to)
step_of t time Stand = Some StandStill
step_of t time (Ride ride) = option_map (λ (run : Instance). TakeRide run.trip run.day ride.board ride.alight) (run_at t time ride)

-- each walk is a journey with the same ends, times and letters
abbrev pub WalksAreJourneys : NetworkLists → TableLists → Type 0
WalksAreJourneys n table = (v t : ℕ) (walk : List WalkStep) (w u : ℕ) → IsWalk (plain_meaning n table) v t walk w u
    → (steps : List Step) × AreSteps n v t steps w u (word_from (plain_meaning n table) v walk)

-- a walk from v at t to w at u with these letters
pub record HasPlainWalk (n : NetworkLists) (table : TableLists) (v t w u : ℕ) (letters : List ℕ) : Type 0 where
  pub walk : List WalkStep
  pub leads : IsWalk (plain_meaning n table) v t walk w u
  pub word : word_from (plain_meaning n table) v walk ≡ letters

-- for each journey there is a walk with the same ends, times and letters
abbrev pub JourneysAreWalks : NetworkLists → TableLists → Type 0
JourneysAreWalks n table = (v t : ℕ) (steps : List Step) (w u : ℕ) (letters : List ℕ) → AreSteps n v t steps w u letters → HasPlainWalk n table v t w u letters

abbrev pub IsNoWait : Step → Type 0
IsNoWait (Wait until) = ⊥
IsNoWait (TakeRoad to) = Unit {0}
IsNoWait (TakeLink to) = Unit {0}
IsNoWait StandStill = Unit {0}
IsNoWait (TakeRide trip day board alight) = Unit {0}

-- each arc that is taken at a time arrives when some step of the network but a wait, with its ends and its letter, taken then, arrives
abbrev pub ArcsAreSteps : NetworkLists → TableLists → Type 0
ArcsAreSteps n table = (v i t u : ℕ) → HasArc (plain_meaning n table) v i → (plain_meaning n table).arrive v i t ≡ Some u
    → (step : Step) × IsNoWait step × IsStep n v t step ((plain_meaning n table).arc_at v i).to u ((plain_meaning n table).arc_at v i).letter

-- an arc from v to w with this letter that is taken at t arrives at u or earlier
pub record HasArcBy (n : NetworkLists) (table : TableLists) (v t w u : ℕ) (letter : Option ℕ) : Type 0 where
  pub place : ℕ
  pub at : ℕ
  pub has : HasArc (plain_meaning n table) v place
  pub arrives : (plain_meaning n table).arrive v place t ≡ Some at
  pub soon : at ≤ u
  pub to : ((plain_meaning n table).arc_at v place).to ≡ w
  pub same : ((plain_meaning n table).arc_at v place).letter ≡ letter

-- for each step but a wait that is taken at t or later, an arc with the same ends and letter that is taken at t arrives no later
abbrev pub StepsAreArcs : NetworkLists → TableLists → Type 0
StepsAreArcs n table = (v t s w u : ℕ) (step : Step) (letter : Option ℕ) → t ≤ s → IsNoWait step → IsStep n v s step w u letter → HasArcBy n table v t w u letter
