use Rattle.plan_base.proofs.Common.{◌≡◌, ◌+◌, ◌++◌, length}
use Rattle.sample_city.specs.Stops as spec
use Rattle.sample_city.proofs.stops.stop_nodes.Given as goal

abbrev pub decreases-loop-rest : goal.decreases-loop-rest
decreases-loop-rest l = length l.rest

abbrev pub invariant-loop-rest : goal.invariant-loop-rest
invariant-loop-rest l = record {
  so_far : l.nodes.items ++ spec.city_stop_nodes l.number l.rest ≡ spec.city_stop_nodes 0 l.stops;
  count : l.number + length l.rest ≡ length l.stops;
}
