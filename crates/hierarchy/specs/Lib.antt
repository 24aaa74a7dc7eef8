pub mod Lists
pub mod Hops
pub mod Soundness
pub mod Rules
pub mod Lookups
pub mod Rises
pub mod Indexes
pub mod FirstBroken
pub mod Contraction
pub mod inside
pub use Lists.{Entry, WitnessLists, HierarchyLists, first_of, last_of, height_in, IsAbove, is_above, IsContracted, is_contracted, IsCore}
pub use Hops.{Hop, AreHops, total, AreAll, nodes_along, AreHigh, IsDescent}
pub use Soundness.{HasEntry, HasLighter, IsFree, MayStandAt, FitsLayer, IsCovered, IsMadeBy, IsMade, HasWitness, IsBridged, ArePairAt, PairIsBridged, PairsAreBridged, NodeIsBridged, IsSound}
pub use Rules.{entry_cmp, witness_cmp, IsNode, FitsEntry, FitsWitness, IsHierarchy}
pub use Lookups.{Fall, IsEntryFor, HasNoEntry, IsWitnessFor, HasNoWitness, from_of, AreFrom, no_entry, entry_at, places_before, places_of, ArePlaces, is_fall, falls_to, FallsTo, fall_at, place_of_fall, falls_in, falls_into}
pub use Rises.{is_core, leads_up, is_rise, Rise, rise_from, place_of, rise_at, rises_at, rises_in, all_rises, rises_of, rise_places_from, RisesFrom, number_before, leg_of, is_short, has_legs, legs_from, IsRiseOf, AreRises, AreRisesFrom, IsRiseRange}
pub use Indexes.{NodeRow, AreEndsBelow, AreBelow, node_row, AreRows, fall_count, AreFallCounts, AreRunningSums, AreFallOffsets, AreFallTables}
pub use FirstBroken.{Verdict, Sound, Broken, FailsFirst, OrderHolds, BridgesFailFirst, IsFirstBroken, IsSoundnessVerdict}
pub use Contraction.{IsShortcut, IsContractedNext, ContractionsKeepSoundness, HasCoreWalk, HasRoads, CoresKeepDistances, EntriesAreRoads}
