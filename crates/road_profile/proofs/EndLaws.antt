-- Each leg joins two nodes that have places.
use Rattle.plan_base.proofs.Common.{◌≡◌, ℕ, ℤ, List, [], ◌∷◌, Bool, true, false, Option, Some, None, if◌then◌else◌, refl, sym, ap, is_some, arith, All, Contains, IfOk, Ok, Err, Result, Vec, Global, int_eq, All-nil, All-cons, All-append, All-contains, All-contains_itself, All-weaker, Decides-int_eq}
use Rattle.plan_base.specs.{Mode, Foot, Bike, Car, Place}
use Rattle.geo_length.specs.{duration_of, length_between}
use Rattle.opl_reader.specs.{OsmNode, OsmWay, ObjectLists.ObjectLists}
use Rattle.road_profile.specs.{Direction, Both, Forward, Backward, Passage, RoadRow, passages_of, AreRoadArcs, JoinsPlaces, directed, legs_of, mode_legs, neighbours, pair_legs, piece_legs, place_of_node, placed_legs, row, step_legs, timed, way_legs, declared.passages.Passages.Passages}
use Rattle.road_profile.proofs.TimedLaws.{All-flat_map}

-- what holds of the rows both ways between two nodes, of each mode and time
record BothWays (P : RoadRow → Type 0) (a b : ℤ) : Type 0 where
  there : (mode : Mode) (ms : ℕ) → P (row a b mode ms)
  back : (mode : Mode) (ms : ℕ) → P (row b a mode ms)

directed-all : (P : RoadRow → Type 0) (mode : Mode) (a b : ℤ) (ms : ℕ) (direction : Direction) → BothWays P a b → All P (directed mode a b ms direction)
directed-all P mode a b ms Both h = All-cons P (row a b mode ms) (row b a mode ms ∷ []) (h.there mode ms) (All-cons P (row b a mode ms) [] (h.back mode ms) (All-nil P))
directed-all P mode a b ms Forward h = All-cons P (row a b mode ms) [] (h.there mode ms) (All-nil P)
directed-all P mode a b ms Backward h = All-cons P (row b a mode ms) [] (h.back mode ms) (All-nil P)

timed-all : (P : RoadRow → Type 0) (mode : Mode) (a b : ℤ) (direction : Direction) (ms : Option ℕ) → BothWays P a b → All P (timed mode a b direction ms)
timed-all P mode a b direction None h = All-nil P
timed-all P mode a b direction (Some ms) h = directed-all P mode a b ms direction h

mode_legs-all : (P : RoadRow → Type 0) (mode : Mode) (a b : ℤ) (mm : ℕ) (passage : Option Passage) → BothWays P a b → All P (mode_legs mode a b mm passage)
unfolding mode_legs
mode_legs-all P mode a b mm None h = All-nil P
mode_legs-all P mode a b mm (Some passage) h = timed-all P mode a b passage.direction (duration_of mm passage.speed) h

pair_legs-all : (P : RoadRow → Type 0) (passages : Passages) (a b : ℤ) (mm : ℕ) → BothWays P a b → All P (pair_legs passages a b mm)
unfolding pair_legs
pair_legs-all P passages a b mm h =
    All-append P _ _ (mode_legs-all P Foot a b mm passages.foot h) (All-append P _ _ (mode_legs-all P Bike a b mm passages.bike h) (mode_legs-all P Car a b mm passages.car h))

joins : (nodes : List OsmNode) (a b : ℤ) → (a ≡ b → ⊥) → is_some (place_of_node nodes a) ≡ true → is_some (place_of_node nodes b) ≡ true → BothWays (JoinsPlaces nodes) a b
joins nodes a b differ from to = record {
  there = λ mode ms. record { differ = differ; from = from; to = to };
  back = λ mode ms. record { differ = λ e. differ (sym e); from = to; to = from };
}

placed-joined : (nodes : List OsmNode) (passages : Passages) (a b : ℤ) (from to : Option Place) → place_of_node nodes a ≡ from → place_of_node nodes b ≡ to → (a ≡ b → ⊥) → All (JoinsPlaces nodes) (placed_legs passages a b from to)
placed-joined nodes passages a b (Some from) (Some to) p q differ =
    pair_legs-all (JoinsPlaces nodes) passages a b (length_between from to) (joins nodes a b differ (ap is_some p) (ap is_some q))
placed-joined nodes passages a b (Some from) None p q differ = All-nil (JoinsPlaces nodes)
placed-joined nodes passages a b None to p q differ = All-nil (JoinsPlaces nodes)

differ_if : (a b : ℤ) → int_eq a b ≡ false → a ≡ b → ⊥
differ_if a b e = grind (arith, Decides-int_eq)

step_legs-joined : (nodes : List OsmNode) (passages : Passages) (step : ℤ × ℤ) → All (JoinsPlaces nodes) (step_legs (place_of_node nodes) passages step)
unfolding step_legs
step_legs-joined nodes passages (a, b) = by_test (int_eq a b) refl
  where
    by_test : (same : Bool) → int_eq a b ≡ same → All (JoinsPlaces nodes) (if same then [] else placed_legs passages a b (place_of_node nodes a) (place_of_node nodes b))
    by_test true e = All-nil (JoinsPlaces nodes)
    by_test false e = placed-joined nodes passages a b (place_of_node nodes a) (place_of_node nodes b) refl refl (differ_if a b e)

piece_legs-joined : (nodes : List OsmNode) (passages : Passages) (piece : List ℤ) → All (JoinsPlaces nodes) (piece_legs (place_of_node nodes) passages piece)
unfolding piece_legs
piece_legs-joined nodes passages piece = All-flat_map (JoinsPlaces nodes) (step_legs (place_of_node nodes) passages) (step_legs-joined nodes passages) (neighbours piece)

way_legs-joined : (nodes : List OsmNode) (way : OsmWay) → All (JoinsPlaces nodes) (way_legs (place_of_node nodes) way)
unfolding way_legs
way_legs-joined nodes way = All-flat_map (JoinsPlaces nodes) (piece_legs (place_of_node nodes) (passages_of way.tags)) (piece_legs-joined nodes (passages_of way.tags)) way.pieces

legs_of-joined : (objects : ObjectLists) → All (JoinsPlaces objects.nodes) (legs_of objects)
unfolding legs_of
legs_of-joined objects = All-flat_map (JoinsPlaces objects.nodes) (way_legs (place_of_node objects.nodes)) (way_legs-joined objects.nodes) objects.ways

-- each arc is a leg
pub arcs_joined : (objects : ObjectLists) (rows : List RoadRow) → AreRoadArcs objects rows → All (JoinsPlaces objects.nodes) rows
arcs_joined objects rows arcs =
    All-weaker (Contains rows) (JoinsPlaces objects.nodes) (λ row there. All-contains (JoinsPlaces objects.nodes) (legs_of objects) row (legs_of-joined objects) ((arcs.arcs row).0 there).leg) rows (All-contains_itself rows)

pub answer_joined : {E : Type 0} (objects : ObjectLists) (answer : Result (Vec RoadRow Global) E) → IfOk answer (λ rows. AreRoadArcs objects rows.items) → IfOk answer (λ rows. All (JoinsPlaces objects.nodes) rows.items)
answer_joined objects (Ok rows) arcs = arcs_joined objects rows.items arcs
answer_joined objects (Err e) h = tt
