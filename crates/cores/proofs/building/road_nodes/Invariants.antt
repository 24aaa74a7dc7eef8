use Rattle.plan_base.proofs.Common.{◌≡◌, ◌≤◌, length, take}
use Rattle.cores.proofs.building.road_nodes.Given as goal

abbrev pub invariant-loop-v : goal.invariant-loop-v
invariant-loop-v l = record { so_far : l.roads.items ≡ take l.v l.network.roads; within : l.v ≤ length l.network.roads }
