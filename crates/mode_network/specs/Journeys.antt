-- Journeys over a network.
use Rattle.std.specs.Prelude.{◌≡◌, ℕ, ◌+◌, ◌≤◌, List, [], ◌∷◌, ◌++◌, Option, Some, None, Contains, option_to_list}
use Rattle.search_laws.specs.{collapse}
use Rattle.timetable_arcs.specs.{Call, TripLists, IsRide, arrival_of, departure_of}
use Rattle.mode_network.specs.{declared.nodes.Arc.Arc, declared.steps.Step.TheVariants.Road, NetworkLists.NetworkLists, NetworkLists.letter_at, NetworkLists.stop_node}
pub use Rattle.mode_network.specs.{declared.steps.Step.Step, declared.steps.Step.TheVariants.Wait, declared.steps.Step.TheVariants.Link, declared.steps.Step.TheVariants.Stand, declared.steps.Step.TheVariants.Ride}

-- where and when a journey starts, and its steps
pub record Route : Type 0 where
  pub start : ℕ
  pub at : ℕ
  pub steps : List Step

-- an arc leads from v to w in ms milliseconds
abbrev pub Leads : List Arc → ℕ → ℕ → ℕ → Type 0
Leads arcs v w ms = Contains arcs (record { from = v; to = w; ms = ms })

-- how long the arc from v to w takes, or that there is none
abbrev pub IsDuration : List Arc → ℕ → ℕ → Option ℕ → Type 0
IsDuration arcs v w (Some ms) = Leads arcs v w ms
IsDuration arcs v w None = (ms : ℕ) → Leads arcs v w ms → ⊥

-- the step leads from the node v at the time t to the node w at the time u, and has this letter
abbrev pub IsStep : NetworkLists → ℕ → ℕ → Step → ℕ → ℕ → Option ℕ → Type 0
IsStep n v t (Wait until) w u letter = (t ≤ until) × (w ≡ v) × (u ≡ until) × (letter ≡ None)
IsStep n v t (Road to) w u letter = (ms : ℕ) × Leads n.arcs v to ms × (w ≡ to) × (u ≡ t + ms) × (letter ≡ letter_at n.roads v)
IsStep n v t (Link to) w u letter = (ms : ℕ) × Leads n.links v to ms × (w ≡ to) × (u ≡ t + ms) × (letter ≡ None)
IsStep n v t Stand w u letter = (mode : ℕ) × (letter_at n.roads v ≡ Some mode) × (w ≡ v) × (u ≡ t) × (letter ≡ Some mode)
IsStep n v t (Ride trip day board alight) w u letter =
    (run : TripLists) × (on : Call) × (off : Call) × IsRide n.trips trip day board alight run on off
    × (v ≡ stop_node n on.stop) × (t ≤ departure_of n.days.bases day on)
    × (w ≡ stop_node n off.stop) × (u ≡ arrival_of n.days.bases day off) × (letter ≡ Some run.letter)

-- the steps lead from v at t to w at u, each from where and when the one before it ended, and these are their letters
abbrev pub AreSteps : NetworkLists → ℕ → ℕ → List Step → ℕ → ℕ → List ℕ → Type 0
AreSteps n v t [] w u letters = (w ≡ v) × (u ≡ t) × (letters ≡ [])
AreSteps n v t (step ∷ steps) w u letters =
    (v1 : ℕ) × (t1 : ℕ) × (letter : Option ℕ) × (rest : List ℕ)
    × IsStep n v t step v1 t1 letter × AreSteps n v1 t1 steps w u rest × (letters ≡ option_to_list letter ++ rest)

-- the journey is real, ends at w at the time u, and has this word: the letters of its steps, in which adjacent equal road letters are made one
pub record IsJourney (n : NetworkLists) (j : Route) (w u : ℕ) (word : List ℕ) : Type 0 where
  pub letters : List ℕ
  pub steps : AreSteps n j.start j.at j.steps w u letters
  pub word_is : word ≡ collapse letters
