use Rattle.plan_base.proofs.Common.{◌≡◌, ◌+◌, ◌++◌, flat_map, range_with_len}
use Rattle.latest_departure.specs.inside.{mirror_ride_ways, ride_calls}
use Rattle.latest_departure.proofs.mirror.Mirror.push_run.Given as goal

abbrev pub invariant-loop-board : goal.invariant-loop-board
invariant-loop-board l =
    l.ways.items ≡ l.initial.ways.items ++ flat_map (λ board. mirror_ride_ways l.self.backwards.now.network l.self.backwards.now.table l.self.deadline l.run (l.place + board) (ride_calls l.pattern l.call board)) (range_with_len 0 l.board)
