use Rattle.plan_base.proofs.Common.{◌≡◌, ℤ, take, get, int_eq}
use Rattle.road_profile.specs.{place_of_node}
use Rattle.road_profile.proofs.places.places_of.Given as goal

abbrev pub invariant-loop-node : goal.invariant-loop-node
invariant-loop-node l = (id : ℤ) → get int_eq l.by_id id ≡ place_of_node (take l.node-index l.nodes) id
