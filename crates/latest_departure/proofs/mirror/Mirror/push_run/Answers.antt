use Rattle.plan_base.proofs.Common.{ℕ, ◌+◌}
use Rattle.latest_departure.specs.inside.{mirror_ride_ways, ride_calls}
use Rattle.latest_departure.proofs.TurnedLemmas.{pieces_pushed}
use Rattle.latest_departure.proofs.mirror.Mirror.push_run.Goals as goal

pub loop-board-preserved : goal.loop-board-preserved
loop-board-preserved c =
    let b = c.args.self.now.backwards.now in
    pieces_pushed (λ (board : ℕ). mirror_ride_ways b.network b.table c.args.self.now.deadline c.args.run (c.args.place + board) (ride_calls c.args.pattern c.args.call board)) c.loop-board.board
    c.args.ways.now.items c.loop-board.ways.items c.push_ride.new.ways.items c.loop-board.invariant (rw c.from.ensures at c.in_ok-push_ride.ensures)
