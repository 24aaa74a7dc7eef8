pub mod Arcs
pub mod Classes
pub mod Legs
pub mod Passages
pub mod Rules
pub mod Tags
pub use Arcs.{RoadRow, AreParallel, IsTimed, JoinsPlaces, IsArcOf, row_cmp, AreArcsOf, AreRoadArcs}
pub use Classes.{Class, road, classes}
unfoldable pub use Classes.{class_named}
pub use Legs.{Direction, Both, Forward, Backward, Passage, place_of_node, place_with, neighbours_behind, neighbours, row, directed, timed, placed_legs}
unfoldable pub use Legs.{mode_legs, pair_legs, step_legs, piece_legs, way_legs, legs_of}
pub use Passages.{closed}
unfoldable pub use Passages.{passages_of}
