-- Each leg takes some time.
use Rattle.plan_base.proofs.Common.{◌≡◌, ℕ, ℤ, ◌≤◌, ◌^◌, ◌*◌, List, [], ◌∷◌, Bool, true, false, Option, Some, None, if◌then◌else◌, arith, max, refl, All, Contains, flat_map, nat_lt, IfOk, Ok, Err, Result, Vec, Global, div_ceil, int_eq, cond_some, All-nil, All-cons, All-append, All-contains, All-contains_itself, All-weaker}
use Rattle.plan_base.specs.{Mode, Foot, Bike, Car, Place}
use Rattle.geo_length.specs.{duration_of, length_between}
use Rattle.opl_reader.specs.{OsmWay, ObjectLists.ObjectLists}
use Rattle.road_profile.specs.{Direction, Both, Forward, Backward, Passage, RoadRow, passages_of, AreRoadArcs, IsTimed, directed, legs_of, mode_legs, neighbours, pair_legs, piece_legs, place_of_node, placed_legs, row, step_legs, timed, way_legs, declared.passages.Passages.Passages}

-- what holds of all that each element gives
pub All-flat_map : {X Y : Type 0} (P : Y → Type 0) (f : X → List Y) → ((x : X) → All P (f x)) → (xs : List X) → All P (flat_map f xs)
All-flat_map P f each [] = All-nil P
All-flat_map P f each (x ∷ xs) = All-append P (f x) (flat_map f xs) (each x) (All-flat_map P f each xs)

pub duration_of-ge : (mm speed n : ℕ) → duration_of mm speed ≡ Some n → 1 ≤ n
unfolding duration_of
duration_of-ge mm speed n e =
    let ms : ℕ = max 1 (div_ceil (mm * 1000) speed) in
    let is = cond_some (nat_lt ms (2 ^ 32)) ms n e in
    omega (arith, is.1)

directed-timed : (mode : Mode) (a b : ℤ) (ms : ℕ) (direction : Direction) → 1 ≤ ms → All IsTimed (directed mode a b ms direction)
directed-timed mode a b ms Both t =
    All-cons IsTimed (row a b mode ms) (row b a mode ms ∷ []) t (All-cons IsTimed (row b a mode ms) [] t (All-nil IsTimed))
directed-timed mode a b ms Forward t = All-cons IsTimed (row a b mode ms) [] t (All-nil IsTimed)
directed-timed mode a b ms Backward t = All-cons IsTimed (row b a mode ms) [] t (All-nil IsTimed)

mode_legs-timed : (mode : Mode) (a b : ℤ) (mm : ℕ) (passage : Option Passage) → All IsTimed (mode_legs mode a b mm passage)
unfolding mode_legs
mode_legs-timed mode a b mm None = All-nil IsTimed
mode_legs-timed mode a b mm (Some passage) = by_time (duration_of mm passage.speed) refl
  where
    by_time : (o : Option ℕ) → duration_of mm passage.speed ≡ o → All IsTimed (timed mode a b passage.direction o)
    by_time None e = All-nil IsTimed
    by_time (Some ms) e = directed-timed mode a b ms passage.direction (duration_of-ge mm passage.speed ms e)

pair_legs-timed : (passages : Passages) (a b : ℤ) (mm : ℕ) → All IsTimed (pair_legs passages a b mm)
unfolding pair_legs
pair_legs-timed passages a b mm =
    All-append IsTimed _ _ (mode_legs-timed Foot a b mm passages.foot) (All-append IsTimed _ _ (mode_legs-timed Bike a b mm passages.bike) (mode_legs-timed Car a b mm passages.car))

placed_legs-timed : (passages : Passages) (a b : ℤ) (from to : Option Place) → All IsTimed (placed_legs passages a b from to)
placed_legs-timed passages a b (Some from) (Some to) = pair_legs-timed passages a b (length_between from to)
placed_legs-timed passages a b (Some from) None = All-nil IsTimed
placed_legs-timed passages a b None to = All-nil IsTimed

in_both : (test : Bool) (legs : List RoadRow) → All IsTimed legs → All IsTimed (if test then [] else legs)
in_both true legs h = All-nil IsTimed
in_both false legs h = h

step_legs-timed : (places : ℤ → Option Place) (passages : Passages) (step : ℤ × ℤ) → All IsTimed (step_legs places passages step)
unfolding step_legs
step_legs-timed places passages step =
    in_both (int_eq step.0 step.1) _ (placed_legs-timed passages step.0 step.1 (places step.0) (places step.1))

piece_legs-timed : (places : ℤ → Option Place) (passages : Passages) (piece : List ℤ) → All IsTimed (piece_legs places passages piece)
unfolding piece_legs
piece_legs-timed places passages piece =
    All-flat_map IsTimed (step_legs places passages) (step_legs-timed places passages) (neighbours piece)

way_legs-timed : (places : ℤ → Option Place) (way : OsmWay) → All IsTimed (way_legs places way)
unfolding way_legs
way_legs-timed places way =
    All-flat_map IsTimed (piece_legs places (passages_of way.tags)) (piece_legs-timed places (passages_of way.tags)) way.pieces

pub legs_of-timed : (objects : ObjectLists) → All IsTimed (legs_of objects)
unfolding legs_of
legs_of-timed objects = All-flat_map IsTimed (way_legs (place_of_node objects.nodes)) (way_legs-timed (place_of_node objects.nodes)) objects.ways

-- each arc is a leg
pub arcs_timed : (objects : ObjectLists) (rows : List RoadRow) → AreRoadArcs objects rows → All IsTimed rows
arcs_timed objects rows arcs =
    All-weaker (Contains rows) IsTimed (λ row there. All-contains IsTimed (legs_of objects) row (legs_of-timed objects) ((arcs.arcs row).0 there).leg) rows (All-contains_itself rows)

pub answer_timed : {E : Type 0} (objects : ObjectLists) (answer : Result (Vec RoadRow Global) E) → IfOk answer (λ rows. AreRoadArcs objects rows.items) → IfOk answer (λ rows. All IsTimed rows.items)
answer_timed objects (Ok rows) arcs = arcs_timed objects rows.items arcs
answer_timed objects (Err e) h = tt
