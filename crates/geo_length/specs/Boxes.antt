-- Boxes of places, from a south-western corner to a north-eastern one.
use Rattle.std.specs.Prelude.{ℤ, ◌≤ℤ◌, List, All}
use Rattle.plan_base.specs.{Place}
pub use Rattle.geo_length.specs.declared.boxes.Bounds.{Bounds}

pub record IsInside (bounds : Bounds) (place : Place) : Type 0 where
  pub south : bounds.low.lat ≤ℤ place.lat
  pub north : place.lat ≤ℤ bounds.high.lat
  pub west : bounds.low.lon ≤ℤ place.lon
  pub east : place.lon ≤ℤ bounds.high.lon

-- a point is inside, and its id is no lower than the least
abbrev pub IsInBounds : Bounds → ℤ × Place → Type 0
IsInBounds bounds point = IsInside bounds point.1 × (bounds.least_id ≤ℤ point.0)

abbrev pub AreInside : Bounds → List (ℤ × Place) → Type 0
AreInside bounds points = All (IsInBounds bounds) points
