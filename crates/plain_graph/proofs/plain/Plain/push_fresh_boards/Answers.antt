use Rattle.plan_base.proofs.Common.{arith}
use Rattle.timetable_arcs.specs.{boards_at}
use Rattle.plain_graph.proofs.{BoardTies.board_known, FreshTies.board_more}
use Rattle.plain_graph.proofs.plain.Plain.push_fresh_boards.Goals as goal

pub overflow_add-placed : goal.overflow_add-placed
overflow_add-placed c =
    let board = board_known c.args.self.now.timetable.now c.known.ensures c.args.stop c.boards-board-items.result.now c.boards-board-items.ensures c.loop-board.board-index c.loop-board-test.true in
    omega (arith, board.few, c.requires.place)

pub push_fresh_board-requires-clause-board : goal.push_fresh_board-requires-clause-board
push_fresh_board-requires-clause-board c =
    (board_known c.args.self.now.timetable.now c.known.ensures c.args.stop c.boards-board-items.result.now c.boards-board-items.ensures c.loop-board.board-index c.loop-board-test.true).is

pub push_fresh_board-requires-clause-place : goal.push_fresh_board-requires-clause-place
push_fresh_board-requires-clause-place c =
    let board = board_known c.args.self.now.timetable.now c.known.ensures c.args.stop c.boards-board-items.result.now c.boards-board-items.ensures c.loop-board.board-index c.loop-board-test.true in
    omega (arith, board.few, c.requires.place)

pub loop-board-preserved : goal.loop-board-preserved
loop-board-preserved c =
    let n = c.args.self.now.network.now in
    let t = c.args.self.now.timetable.now in
    let boards = c.boards-board-items.ensures in
    board_more n t c.args.visit.at c.args.visit.letters c.args.first c.args.visit.state c.loop-board.board-index (boards_at t c.args.stop) c.args.given.now c.loop-board.given c.push_fresh_board.new.given
    c.args.ways.now.items c.loop-board.ways.items c.push_fresh_board.new.ways.items (rw boards at c.loop-board-test.true) c.loop-board.invariant (rw boards at c.in_ok-push_fresh_board.ensures)
