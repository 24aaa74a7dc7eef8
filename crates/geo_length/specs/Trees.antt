-- Trees of boxes around points, which are halved again and again.
use Rattle.std.specs.Prelude.{ℤ, ◌/◌, List, length, take, drop}
use Rattle.plan_base.specs.{Place}
use Rattle.geo_length.specs.{declared.boxes.Bounds.Bounds, Boxes.AreInside}
pub use Rattle.geo_length.specs.declared.tree.Tree.{Tree, Leaf, Fork'}

-- the box around all of the points
abbrev pub bounds_of : Tree → Bounds
bounds_of (Leaf bounds) = bounds
bounds_of (Fork' bounds p left q right) = bounds

-- each box is around its points: those of a fork's two parts are the first half of its own, and the others
abbrev pub AreBounded : Tree → List (ℤ × Place) → Type 0
AreBounded (Leaf bounds) points = AreInside bounds points
AreBounded (Fork' bounds p left q right) points =
    AreInside bounds points × AreBounded left (take (length points / 2) points) × AreBounded right (drop (length points / 2) points)
