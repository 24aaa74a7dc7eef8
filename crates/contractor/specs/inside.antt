-- What contraction keeps and what its steps do; types and the clauses of private calls name it.
pub mod Partway
pub mod Layers
pub use Partway.{IsTrueWeight, HaveOtherEnds, IsGood, IsLive, IsWayPast, HaveOtherWays, IsNoHeavier, AreWays, IsPartway, IsPut, shortcut_of}
pub use Layers.{lists_of, lists_with, edge_of, nodes_in, into_at, StandsForEntry, IsInRows, FitsRows, IsLayer, CanPut, HasWithin, IsReplaced, IsAdded, IsEntered, IsEdgeListed, IsPlaceable, IsEntryPlaced, IsRowTaken, AreNodesTaken, side_of, AreSidesOf, AreSides, IsCut, IsLessInto, AreFirst, AreSecond, way_with, IsWayOf, IsListedOrWithin, IsWayTaken, AreWaysWith, way_cmp, AreWaysOf, HaveOtherKeys, IsForWay, AreWalks, IsState, IsBridging, IsEndOf, IsSearchFor, AreWaiting, AreArcs, AreEmptyLists, IsFinished}
