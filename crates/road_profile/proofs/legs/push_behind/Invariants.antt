use Rattle.plan_base.proofs.Common.{◌≡◌, ◌++◌, drop, flat_map, get, int_eq}
use Rattle.road_profile.specs.{neighbours_behind, step_legs}
use Rattle.road_profile.proofs.legs.push_behind.Given as goal

abbrev pub invariant-loop-to : goal.invariant-loop-to
invariant-loop-to l =
    l.rows.items ++ flat_map (step_legs (get int_eq l.places.by_id) l.passages) (neighbours_behind l.from (drop l.to-index l.rest)) ≡ l.initial.rows.items ++ flat_map (step_legs (get int_eq l.places.by_id) l.passages) (neighbours_behind l.fn.first l.rest)
