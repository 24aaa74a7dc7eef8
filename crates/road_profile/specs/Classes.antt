-- What a value of the key `highway` says of a way: whether walkers and cyclists may use it, and the speed of
-- cars in mm/s, where they may.
use Rattle.std.specs.Prelude.{ℕ, List, [], ◌∷◌, Bool, true, false, Option, Some, None, codes, bytes_eq}
use Rattle.std.specs.Map.{lookup}
pub use Rattle.road_profile.specs.declared.classes.Class.{Class}

abbrev pub road : Bool → Bool → Option ℕ → Class
road foot bike car = record { foot = foot; bike = bike; car = car }

abbrev pub classes : List (List ℕ × Class)
classes =
    (codes "motorway", road false false (Some 30556)) ∷
    (codes "motorway_link", road false false (Some 16667)) ∷
    (codes "trunk", road false false (Some 25000)) ∷
    (codes "trunk_link", road false false (Some 13889)) ∷
    (codes "primary", road true true (Some 16667)) ∷
    (codes "primary_link", road true true (Some 11111)) ∷
    (codes "secondary", road true true (Some 13889)) ∷
    (codes "secondary_link", road true true (Some 11111)) ∷
    (codes "tertiary", road true true (Some 12500)) ∷
    (codes "tertiary_link", road true true (Some 9722)) ∷
    (codes "unclassified", road true true (Some 11111)) ∷
    (codes "residential", road true true (Some 8333)) ∷
    (codes "living_street", road true true (Some 2778)) ∷
    (codes "service", road true true (Some 5556)) ∷
    (codes "road", road true true (Some 8333)) ∷
    (codes "track", road true true None) ∷
    (codes "path", road true true None) ∷
    (codes "cycleway", road true true None) ∷
    (codes "pedestrian", road true false None) ∷
    (codes "footway", road true false None) ∷
    (codes "steps", road true false None) ∷
    (codes "bridleway", road true false None) ∷
    (codes "corridor", road true false None) ∷
    []

-- the class of a way with this value
unfoldable pub class_named : List ℕ → Option Class
class_named highway = lookup (λ name. bytes_eq name highway) classes
