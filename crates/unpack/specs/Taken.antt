-- The journey of a walk that a search found through the graph of a network.
use Rattle.std.specs.Prelude.{◌≡◌, Option, Some, None, All}
use Rattle.timetable_arcs.specs.{TableLists}
use Rattle.mode_network.specs.{NetworkLists.NetworkLists, Route, AreSteps}
use Rattle.product_search.specs.{Walk}
use Rattle.journey.specs.{AreOnTime}
use Rattle.unpack.specs.Unpacking.{ArePlainHops, IsSoon, node_after, arrival_after, letters_of}

-- a walk that was found, if there is one, is one of the network's graph
abbrev pub IsPlainWalk : NetworkLists → TableLists → Option Walk → Type 0
IsPlainWalk n table None = Unit {0}
IsPlainWalk n table (Some walk) = ArePlainHops n table walk.node walk.at walk.hops.items

-- the journey takes the hops of the walk one after the other, and boards each ride when it departs
pub record TakesHops (n : NetworkLists) (table : TableLists) (walk : Walk) (j : Route) : Type 0 where
  pub start : j.start ≡ walk.node
  pub at : j.at ≡ walk.at
  pub real : AreSteps n j.start j.at j.steps (node_after walk.node walk.hops.items) (arrival_after walk.at walk.hops.items) (letters_of n table walk.node walk.hops.items)
  pub boarded : AreOnTime n j.start j.at j.steps (node_after walk.node walk.hops.items) (arrival_after walk.at walk.hops.items) (letters_of n table walk.node walk.hops.items)
  pub soon : All IsSoon j.steps
