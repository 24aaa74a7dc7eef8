use Rattle.plan_base.proofs.Common.{◌≤◌, ◌-◌, length}
use Rattle.mode_network.specs.{nodes_of}
use Rattle.region_file.proofs.counts.road_count.Given as goal

abbrev pub invariant-loop-v : goal.invariant-loop-v
invariant-loop-v l = l.v ≤ length l.network.roads

abbrev pub decreases-loop-v : goal.decreases-loop-v
decreases-loop-v l = length (nodes_of l.network) - l.v
