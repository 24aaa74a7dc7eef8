pub mod Moves
pub mod Laws
pub mod Arcs
pub mod Marks
pub mod PhaseArcs
pub mod Walked
pub mod InUse
pub mod InUseGraph
pub mod inside
pub use Moves.{IsMarked, PhaseMove, IsCrossing, IsRise, IsPhaseMove, AreMoves, rest, rise, fall, cross, stand}
pub use Laws.{HasPhaseWalk, JourneysHavePhaseWalks, HasJourney, PhaseWalksHaveJourneys}
pub use Arcs.{phase_node, IsResting, IsArcBy, IsArcOfMove, IsPhaseGraph, HasWalk, HasMoves, PhaseGraphsHaveMoves, PhaseGraphsHaveNoOthers}
pub use Marks.{has_mark, marks_in, AreMarksFor, is_fall}
pub use PhaseArcs.{PhaseArc, Up, Down, Other, rises_at, legs_at, first_entry, entries_at, first_other, others_at, phase_arc, phase_arcs_at, arc_of, phase_arrival, before_descent, renumbered, phase_rides, FitsAnew, node_of, is_down, phase_meaning}
pub use Walked.{JourneysHaveWalks, WalksHaveJourneys}
pub use InUse.{IsPlain, IsInUse, starts_in, target_numbers, ends_in, node_under, IsSoundIfGiven, HasWalkInUse, JourneysHaveWalksInUse, GraphsInUseAreLawful, Covers, CoverEachOther, GraphsInUseAreAlike}
pub use InUseGraph.{meaning_in_use}
