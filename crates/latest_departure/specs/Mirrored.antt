-- The walks of a network in mirrored time are its journeys, told from their ends.
use Rattle.std.specs.Prelude.{◌≡◌, ℕ, ◌-◌, ◌≤◌, List, reverse}
use Rattle.search_laws.specs.{GraphMeaning, WalkStep, IsWalk, word_from}
use Rattle.mode_network.specs.{Step, AreSteps, NetworkLists.NetworkLists}

-- steps from v at t to w, where they arrive by the time u, with these letters
pub record HasSteps (n : NetworkLists) (v t w u : ℕ) (letters : List ℕ) : Type 0 where
  pub steps : List Step
  pub arrival : ℕ
  pub are : AreSteps n v t steps w arrival letters
  pub soon : arrival ≤ u

-- A walk from w at the mirrored moment s to v at s2, which is within the deadline, is a journey from v at the deadline less s2 that is at w by
-- the deadline less s, with the letters the other way round.
abbrev pub MirrorsAreJourneys : NetworkLists → GraphMeaning → ℕ → Type 0
MirrorsAreJourneys n g deadline = (w s : ℕ) (walk : List WalkStep) (v s2 : ℕ) → IsWalk g w s walk v s2 → s2 ≤ deadline
    → HasSteps n v (deadline - s2) w (deadline - s) (reverse (word_from g w walk))

-- a walk from w at the mirrored moment s to v at s2 with these letters
pub record HasMirror (g : GraphMeaning) (w s v s2 : ℕ) (letters : List ℕ) : Type 0 where
  pub walk : List WalkStep
  pub leads : IsWalk g w s walk v s2
  pub word : word_from g w walk ≡ letters

-- a journey from v at t that is at w by the deadline is such a walk
abbrev pub JourneysAreMirrors : NetworkLists → GraphMeaning → ℕ → Type 0
JourneysAreMirrors n g deadline = (v t : ℕ) (steps : List Step) (w u : ℕ) (letters : List ℕ) → AreSteps n v t steps w u letters → u ≤ deadline
    → HasMirror g w (deadline - u) v (deadline - t) (reverse letters)
