-- The nearest of some points is found one after the other.
use Rattle.plan_base.proofs.Common.{ℕ, ℤ, List, [], ◌∷◌, Option, None, ◌<◌, fold, All-nil}
use Rattle.plan_base.specs.{Mode, Foot, Bike, Car, Place}
use Rattle.geo_length.specs.{Point, IsNearest, ExtendsNearest, length_to, nearer_of}
use Rattle.geo_length.proofs.NearestLaws.{takes_append, takes_none, takes_point}
use Rattle.mode_network.specs.{Node}
use Rattle.region_build.specs.{inside.near_of, inside.nearest_of, FindsNearest, layer}

takes_all : (place : Place) (points : List Point) (best : Option (ℤ × ℕ)) → ExtendsNearest points place 500000 best (fold (λ (best : Option (ℤ × ℕ)) (point : Point). nearer_of 500000 best point.0 (length_to place point)) best points)
takes_all place [] best = takes_none place 500000 best
takes_all place (point ∷ points) best =
    takes_append place 500000 (point ∷ []) points best (nearer_of 500000 best point.0 (length_to place point)) _ (takes_point place 500000 best point)
    (takes_all place points (nearer_of 500000 best point.0 (length_to place point)))

pub nearest_of_is : (points : List Point) (place : Place) → IsNearest points place 500000 (nearest_of points place)
unfolding nearest_of
nearest_of_is points place = (takes_all place points None).joined [] (All-nil (λ point. 500000 < length_to place point))

-- what is nearest in the lists of a map's layers is nearest in the layers
pub finds_nearest : (roads : List Node) (foot bike car : List Point)
    → ((place : Place) (within : ℕ) (best : Option (ℤ × ℕ)) → IsNearest foot place within best → IsNearest (layer Foot roads) place within best)
    → ((place : Place) (within : ℕ) (best : Option (ℤ × ℕ)) → IsNearest bike place within best → IsNearest (layer Bike roads) place within best)
    → ((place : Place) (within : ℕ) (best : Option (ℤ × ℕ)) → IsNearest car place within best → IsNearest (layer Car roads) place within best)
    → FindsNearest roads (near_of foot bike car)
finds_nearest roads foot bike car on_foot by_bike by_car = record { nearest = each }
  where
    each : (mode : Mode) (place : Place) → IsNearest (layer mode roads) place 500000 (near_of foot bike car mode place)
    each Foot place = on_foot place 500000 _ (nearest_of_is foot place)
    each Bike place = by_bike place 500000 _ (nearest_of_is bike place)
    each Car place = by_car place 500000 _ (nearest_of_is car place)
