-- Laws of boxes.
use Rattle.plan_base.proofs.Common.{◌≡◌, ◌≤ℤ◌, arith, ints}
use Rattle.plan_base.specs.{Place}
use Rattle.geo_length.specs.{IsInBounds, IsInside, Bounds, Point}

-- what is inside depends on the corners alone
pub same_corners : (a b : Bounds) (place : Place) → a.low ≡ b.low → a.high ≡ b.high → IsInside b place → IsInside a place
same_corners a b place low high inside =
    record { south = rw low inside.south; north = rw high inside.north; west = rw low inside.west; east = rw high inside.east }

-- a place between two corners that are inside
pub between : (bounds around : Bounds) (place : Place) → IsInside around bounds.low → IsInside around bounds.high → IsInside bounds place → IsInside around place
between bounds around place low high inside = record {
  south = omega (arith, ints, low.south, inside.south);
  north = omega (arith, ints, high.north, inside.north);
  west = omega (arith, ints, low.west, inside.west);
  east = omega (arith, ints, high.east, inside.east);
}

-- a point is within a box with the same corners and no higher an id
pub still_within : (a b : Bounds) (point : Point) → a.low ≡ b.low → a.high ≡ b.high → a.least_id ≤ℤ point.0 → IsInside b point.1 → IsInBounds a point
still_within a b point low high least inside = (same_corners a b point.1 low high inside, least)
