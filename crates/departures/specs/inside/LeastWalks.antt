-- Walks by least times.
use Rattle.std.specs.Prelude.{◌≡◌, ℕ, ◌+◌, ◌≤◌, List}
use Rattle.search_laws.specs.{WalkStep, IsWalk, word_from}
use Rattle.timetable_arcs.specs.{TableLists}
use Rattle.mode_network.specs.NetworkLists.{NetworkLists}
use Rattle.departures.specs.{declared.fastest.FastestCall.FastestCall, LeastArcs.least_meaning}

-- a walk from v at s to w with these letters, which takes no longer than from `time` to u
pub record HasWalkAsFast (n : NetworkLists) (t : TableLists) (runs : List (List FastestCall)) (v w : ℕ) (letters : List ℕ) (time u s : ℕ) : Type 0 where
  pub steps : List WalkStep
  pub at : ℕ
  pub leads : IsWalk (least_meaning n t runs) v s steps w at
  pub word : word_from (least_meaning n t runs) v steps ≡ letters
  pub no_longer : at + time ≤ u + s
