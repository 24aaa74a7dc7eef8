use Rattle.plan_base.proofs.Common.{◌≡◌, ◌+◌, ◌++◌, length}
use Rattle.region_build.specs.{stop_entry_nodes}
use Rattle.region_build.proofs.stops.stop_nodes.Given as goal

abbrev pub decreases-loop-rest : goal.decreases-loop-rest
decreases-loop-rest l = length l.rest

abbrev pub invariant-loop-rest : goal.invariant-loop-rest
invariant-loop-rest l = record {
  so_far : l.nodes.items ++ stop_entry_nodes l.number l.rest ≡ stop_entry_nodes 0 l.entries;
  count : l.number + length l.rest ≡ length l.entries;
}
