-- The nearest of many points.
use Rattle.std.specs.Prelude.{◌≡◌, ℕ, ℤ, nat_lt, nat_eq, int_le, ◌&&◌, ◌||◌, if◌then◌else◌, ◌≤◌, ◌<◌, ◌≤ℤ◌, ◌++◌, List, Option, Some, None, All, Contains}
use Rattle.plan_base.specs.{Place}
use Rattle.geo_length.specs.Lengths.{length_between}

-- a point has an id and a place
abbrev pub Point : Type 0
Point = ℤ × Place

abbrev pub length_to : Place → Point → ℕ
length_to place point = length_between place point.1

-- A point of this id is at this length from a place. No point is closer, and of those as close none has a
-- lower id.
pub record IsClosest (points : List Point) (place : Place) (id : ℤ) (mm : ℕ) : Type 0 where
  pub at : Place
  pub given : Contains points (id, at)
  pub length_is : mm ≡ length_between place at
  pub closest : All (λ point. mm ≤ length_to place point) points
  pub first : All (λ point. length_to place point ≡ mm → id ≤ℤ point.0) points

-- The id and the length of the nearest point within a length; or nothing, where no point is within it.
abbrev pub IsNearest : List Point → Place → ℕ → Option (ℤ × ℕ) → Type 0
IsNearest points place within None = All (λ point. within < length_to place point) points
IsNearest points place within (Some nearest) = (nearest.1 ≤ within) × IsClosest points place nearest.0 nearest.1

-- From the nearest of any points before, these points make the nearest of them all.
pub record ExtendsNearest (points : List Point) (place : Place) (within : ℕ) (old new : Option (ℤ × ℕ)) : Type 0 where
  pub joined : (seen : List Point) → IsNearest seen place within old → IsNearest (seen ++ points) place within new

-- the greatest length of a point that still matters
abbrev pub limit_of : ℕ → Option (ℤ × ℕ) → ℕ
limit_of within None = within
limit_of within (Some nearest) = nearest.1

-- the point does not come before the nearest so far: it is farther away, or as far with no lower id; or it is past the limit
abbrev pub ComesLater : Place → ℕ → Option (ℤ × ℕ) → Point → Type 0
ComesLater place within None point = within < length_to place point
ComesLater place within (Some nearest) point = (nearest.1 ≤ length_to place point) × (length_to place point ≡ nearest.1 → nearest.0 ≤ℤ point.0)

-- the nearest with a point of this id and length too
abbrev pub nearer_of : ℕ → Option (ℤ × ℕ) → ℤ → ℕ → Option (ℤ × ℕ)
nearer_of within None id mm = if nat_lt within mm then None else Some (id, mm)
nearer_of within (Some nearest) id mm =
    if nat_lt nearest.1 mm || (nat_eq nearest.1 mm && int_le nearest.0 id) then Some nearest else Some (id, mm)
