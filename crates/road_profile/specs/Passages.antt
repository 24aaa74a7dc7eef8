-- How the modes may use a way with some tags.
use Rattle.std.specs.Prelude.{ℕ, ◌≤◌, IfSome, List, [], ◌∷◌, Bool, Option, Some, None, option_map, codes, if◌then◌else◌}
use Rattle.road_profile.specs.{declared.classes.Class.Class, declared.rules.Direction.Direction, declared.rules.Direction.TheVariants.Both, declared.passages.Passage.Passage, declared.passages.Passages.Passages, Classes.class_named, Rules.bike_direction, Rules.car_direction, Rules.speed_by, Tags.is_among, Tags.value_of}

-- a speed where the class lets a mode use the way
abbrev pub where_let : Bool → ℕ → Option ℕ
where_let may speed = if may then Some speed else None

abbrev pub with_speed : Direction → Option ℕ → Option Passage
with_speed direction speed = option_map (λ speed. record { speed = speed; direction = direction }) speed

-- no mode may use the way
abbrev pub closed : Passages
closed = record { foot = None; bike = None; car = None }

-- How the modes may use a way of this class: walkers at 1.4 m/s in both directions, and cyclists at 4.2 m/s. A
-- car that its own tag alone lets on has 2.778 m/s.
unfoldable pub passages_by : List (List ℕ × List ℕ) → List ℕ → Option Class → Passages
passages_by tags highway None = closed
passages_by tags highway (Some class) =
    let access = value_of tags (codes "access") in
    let for_cars = car_direction highway (value_of tags (codes "oneway")) (value_of tags (codes "junction")) in
    let for_bikes = bike_direction (value_of tags (codes "oneway:bicycle")) for_cars in
    record {
      foot = with_speed Both (speed_by (value_of tags (codes "foot")) access (where_let class.foot 1400) 1400);
      bike = with_speed for_bikes (speed_by (value_of tags (codes "bicycle")) access (where_let class.bike 4200) 4200);
      car = with_speed for_cars (speed_by (value_of tags (codes "motor_vehicle")) access class.car 2778);
    }

-- how the modes may use a way with this value of the key `highway`
unfoldable pub passages_on : List (List ℕ × List ℕ) → Option (List ℕ) → Passages
passages_on tags None = closed
passages_on tags (Some highway) = passages_by tags highway (class_named highway)

-- whether a way is the edge of an area
unfoldable pub is_area : Option (List ℕ) → Bool
is_area area = is_among (codes "yes" ∷ []) area

-- How the modes may use a way. An area, and a way without a class, is no road.
unfoldable pub passages_of : List (List ℕ × List ℕ) → Passages
passages_of tags =
    if is_area (value_of tags (codes "area")) then closed else passages_on tags (value_of tags (codes "highway"))

-- each mode that may use the way moves on it
pub record HaveSpeeds (passages : Passages) : Type 0 where
  pub foot : IfSome passages.foot (λ passage. 1 ≤ passage.speed)
  pub bike : IfSome passages.bike (λ passage. 1 ≤ passage.speed)
  pub car : IfSome passages.car (λ passage. 1 ≤ passage.speed)
