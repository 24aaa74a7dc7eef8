use Rattle.plan_base.proofs.Common.{◌≤◌, ◌+◌, ◌-◌, length}
use Rattle.mode_network.specs.{nodes_of}
use Rattle.region_file.proofs.counts.stop_count.Given as goal

abbrev pub invariant-loop-v : goal.invariant-loop-v
invariant-loop-v l = (l.fn.roads ≤ l.v) × (l.v ≤ length l.network.roads + length l.network.stops)

abbrev pub decreases-loop-v : goal.decreases-loop-v
decreases-loop-v l = length (nodes_of l.network) - l.v
