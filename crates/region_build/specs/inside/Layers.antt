-- The nearest point of three lists, one for each mode.
use Rattle.std.specs.Prelude.{ℕ, ℤ, List, Option, None, fold}
use Rattle.plan_base.specs.{Mode, Foot, Bike, Car, Place}
use Rattle.geo_length.specs.{Point, length_to, nearer_of}

-- the nearest of some points within half a kilometre, one after the other
unfoldable pub nearest_of : List Point → Place → Option (ℤ × ℕ)
nearest_of points place = fold (λ (best : Option (ℤ × ℕ)) (point : Point). nearer_of 500000 best point.0 (length_to place point)) None points

-- the points of a mode
abbrev pub points_by : List Point → List Point → List Point → Mode → List Point
points_by foot bike car Foot = foot
points_by foot bike car Bike = bike
points_by foot bike car Car = car

abbrev pub near_of : List Point → List Point → List Point → Mode → Place → Option (ℤ × ℕ)
near_of foot bike car mode place = nearest_of (points_by foot bike car mode) place
