-- A way that no mode may use has no legs.
use Rattle.plan_base.proofs.Common.{◌≡◌, ℤ, List, [], ◌∷◌, Bool, true, false, Option, Some, None, if◌then◌else◌, refl, flat_map, int_eq}
use Rattle.plan_base.specs.{Place}
use Rattle.opl_reader.specs.{OsmWay}
use Rattle.road_profile.specs.{RoadRow, closed, passages_of, mode_legs, pair_legs, piece_legs, placed_legs, step_legs, way_legs, neighbours}

flat_map-nothing : {X Y : Type 0} (f : X → List Y) → ((x : X) → f x ≡ []) → (xs : List X) → flat_map f xs ≡ []
flat_map-nothing f none [] = refl
flat_map-nothing f none (x ∷ xs) = rw (none x) (flat_map-nothing f none xs)

placed_legs-closed : (a b : ℤ) (from to : Option Place) → placed_legs closed a b from to ≡ []
unfolding pair_legs mode_legs
placed_legs-closed a b (Some from) (Some to) = refl
placed_legs-closed a b (Some from) None = refl
placed_legs-closed a b None to = refl

in_both : (test : Bool) (legs : List RoadRow) → legs ≡ [] → (if test then [] else legs) ≡ []
in_both true legs e = refl
in_both false legs e = e

step_legs-closed : (places : ℤ → Option Place) (step : ℤ × ℤ) → step_legs places closed step ≡ []
unfolding step_legs
step_legs-closed places step =
    in_both (int_eq step.0 step.1) _ (placed_legs-closed step.0 step.1 (places step.0) (places step.1))

piece_legs-closed : (places : ℤ → Option Place) (piece : List ℤ) → piece_legs places closed piece ≡ []
unfolding piece_legs
piece_legs-closed places piece = flat_map-nothing (step_legs places closed) (step_legs-closed places) (neighbours piece)

pub way_legs-closed : (places : ℤ → Option Place) (way : OsmWay) → passages_of way.tags ≡ closed → way_legs places way ≡ []
unfolding way_legs
way_legs-closed places way e = rw e (flat_map-nothing (piece_legs places closed) (piece_legs-closed places) way.pieces)
