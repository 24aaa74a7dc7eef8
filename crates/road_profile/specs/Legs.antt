-- The legs of a map's ways: each leads from a node to a neighbour of it on a way, in a mode that may go so.
use Rattle.std.specs.Prelude.{ℕ, ℤ, List, [], ◌∷◌, ◌++◌, Option, Some, None, if◌then◌else◌, flat_map}
use Rattle.std.specs.Ordering.{int_eq}
use Rattle.plan_base.specs.{Mode, Foot, Bike, Car, Place}
use Rattle.opl_reader.specs.{OsmNode, OsmWay, ObjectLists.ObjectLists}
use Rattle.geo_length.specs.{duration_of, length_between}
pub use Rattle.road_profile.specs.{declared.rules.Direction.Direction, declared.rules.Direction.TheVariants.Both, declared.rules.Direction.TheVariants.Forward, declared.rules.Direction.TheVariants.Backward, declared.passages.Passage.Passage, declared.passages.Passages.Passages}
use Rattle.road_profile.specs.{declared.rows.RoadRow.RoadRow, Passages.passages_of}

-- the place of the node with this id
abbrev pub place_of_node : List OsmNode → ℤ → Option Place
place_of_node [] id = None
place_of_node (node ∷ nodes) id = if int_eq node.id id then Some node.place else place_of_node nodes id

-- a place that was found, or else that of one more node
abbrev pub place_with : Option Place → OsmNode → ℤ → Option Place
place_with (Some place) node id = Some place
place_with None node id = if int_eq node.id id then Some node.place else None

-- the pairs of neighbours in a row of nodes, in their order
abbrev pub neighbours_behind : ℤ → List ℤ → List (ℤ × ℤ)
neighbours_behind a [] = []
neighbours_behind a (b ∷ rest) = (a, b) ∷ neighbours_behind b rest

abbrev pub neighbours : List ℤ → List (ℤ × ℤ)
neighbours [] = []
neighbours (a ∷ rest) = neighbours_behind a rest

abbrev pub row : ℤ → ℤ → Mode → ℕ → RoadRow
row from to mode ms = record { from = from; to = to; mode = mode; ms = ms }

-- between two neighbours, in the directions that a mode may go
abbrev pub directed : Mode → ℤ → ℤ → ℕ → Direction → List RoadRow
directed mode a b ms Both = row a b mode ms ∷ row b a mode ms ∷ []
directed mode a b ms Forward = row a b mode ms ∷ []
directed mode a b ms Backward = row b a mode ms ∷ []

abbrev pub timed : Mode → ℤ → ℤ → Direction → Option ℕ → List RoadRow
timed mode a b direction None = []
timed mode a b direction (Some ms) = directed mode a b ms direction

-- between two neighbours that are so many millimetres apart, for one mode; none that would take too long
unfoldable pub mode_legs : Mode → ℤ → ℤ → ℕ → Option Passage → List RoadRow
mode_legs mode a b mm None = []
mode_legs mode a b mm (Some passage) = timed mode a b passage.direction (duration_of mm passage.speed)

-- for walkers, bikes and cars
unfoldable pub pair_legs : Passages → ℤ → ℤ → ℕ → List RoadRow
pair_legs passages a b mm = mode_legs Foot a b mm passages.foot ++ (mode_legs Bike a b mm passages.bike ++ mode_legs Car a b mm passages.car)

abbrev pub placed_legs : Passages → ℤ → ℤ → Option Place → Option Place → List RoadRow
placed_legs passages a b (Some from) (Some to) = pair_legs passages a b (length_between from to)
placed_legs passages a b (Some from) None = []
placed_legs passages a b None to = []

-- between two neighbours that are not the same node
unfoldable pub step_legs : (ℤ → Option Place) → Passages → ℤ × ℤ → List RoadRow
step_legs places passages step =
    if int_eq step.0 step.1 then [] else placed_legs passages step.0 step.1 (places step.0) (places step.1)

unfoldable pub piece_legs : (ℤ → Option Place) → Passages → List ℤ → List RoadRow
piece_legs places passages piece = flat_map (step_legs places passages) (neighbours piece)

unfoldable pub way_legs : (ℤ → Option Place) → OsmWay → List RoadRow
way_legs places way = flat_map (piece_legs places (passages_of way.tags)) way.pieces

-- the legs of all ways
unfoldable pub legs_of : ObjectLists → List RoadRow
legs_of objects = flat_map (way_legs (place_of_node objects.nodes)) objects.ways
