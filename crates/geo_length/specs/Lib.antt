pub mod Boxes
pub mod Degrees
pub mod Durations
pub mod Lengths
pub mod Nearest
pub mod Roots
pub mod Trees
pub mod Widths
pub use Boxes.{Bounds, IsInside, IsInBounds, AreInside}
pub use Degrees.{is_point, are_digits, whole_of, part_of, units_at, units_of, size_of}
unfoldable pub use Degrees.{degrees_of}
unfoldable pub use Durations.{duration_of}
pub use Lengths.{short_way_around, mean_degree, square_between}
unfoldable pub use Lengths.{northward, eastward, length_between}
pub use Nearest.{Point, length_to, IsClosest, IsNearest, ExtendsNearest, limit_of, ComesLater, nearer_of}
pub use Roots.{IsRoot}
unfoldable pub use Roots.{root_up_to, root}
pub use Trees.{Tree, Leaf, Fork', bounds_of, AreBounded}
pub use Widths.{widths}
unfoldable pub use Widths.{width_at}
