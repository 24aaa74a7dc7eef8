-- What descents are made of.
use Rattle.std.specs.Prelude.{ℕ, List, [], Some, IfSome}
use Rattle.hierarchy.specs.{IsSound}
use Rattle.phase_graph.specs.{IsInUse, meaning_in_use}
use Rattle.sweeps.specs.{IsSlopeOf}
use Rattle.rounds.specs.{AreStartsIn}
use Rattle.descents.specs.{Over.AreRoundsOver, Served.IsServedOn}
pub use Rattle.descents.specs.declared.descents.Descents.{Descents}

-- the hierarchy is sound for the network, the graph is its phase graph for no targets, the slope has what leads down to its nodes, and the
-- rounds, if there are some, go over both
pub record AreDescents (d : Descents) : Type 0 where
  pub sound : IsSound d.network.now d.hierarchy.now
  pub in_use : IsInUse d.network.now (Some d.hierarchy.now) [] (meaning_in_use d.graph)
  pub slope : IsSlopeOf d.hierarchy.now d.slope.nodes.items d.slope
  pub rounds : IfSome d.rounds (AreRoundsOver d.network.now d.hierarchy.now)

-- a node of the network, which is on the slope if it is contracted
abbrev pub IsServed : Descents → ℕ → Type 0
IsServed d = IsServedOn d.network.now d.hierarchy.now d.slope.nodes.items

-- the numbers of some nodes of the network before any descent
abbrev pub AreStarts : Descents → List ℕ → Type 0
AreStarts d = AreStartsIn d.network.now d.hierarchy.now
