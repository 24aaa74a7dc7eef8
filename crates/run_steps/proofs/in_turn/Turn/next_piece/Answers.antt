use Rattle.run_steps.proofs.PieceLemmas.{asking_fails}
use Rattle.run_steps.proofs.in_turn.Turn.next_piece.Goals as goal

pub returns-in-Err-clause-err : goal.returns-in-Err-clause-err
returns-in-Err-clause-err g c =
    let mid = g.F.Shelf.meaning c.args.ports.now.shelf in
    let new = g.F.Shelf.meaning c.read.new.self in
    rw (c.refused-in-Err.ensures, c.fault_at-fault.ensures)
    (asking_fails c.args.self.now.file (g.B.LineBlocks.is_block c.args.self.now.blocks.now) c.args.self.now.path.now c.args.place g.first mid new (g.O.Sink.meaning c.args.ports.now.out)
    c.requires.1.1.1.1.1 c.in-Err.ensures.later c.in-Err.error c.in-Err.ensures.cause)
