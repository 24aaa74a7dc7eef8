use Rattle.plan_base.proofs.Common.{ℕ, ◌+◌, ◌≤◌, ◌++◌, length, take, length-take-le, sym, subst, arith, rules}
use Rattle.run_steps.specs.{scene, inside.AreAnswered, inside.IsPieceOutcome}
use Rattle.run_steps.proofs.PieceLemmas.{IsGoingOn, going_on, going_stops}
use Rattle.run_steps.proofs.in_turn.Turn.answer_pieces.Goals as goal

pub returns-in-Err-clause-err : goal.returns-in-Err-clause-err
returns-in-Err-clause-err g c =
    let file = c.args.self.now.file in
    let IsBlock = g.B.LineBlocks.is_block c.args.self.now.blocks.now in
    let Counts = g.B.LineBlocks.counts c.args.self.now.blocks.now in
    let after = g.O.Sink.meaning c.answer_piece.new.out in
    let text = c.pieces.rest.items ++ take c.in_ok-n.n c.next_piece.new.into in
    going_stops file IsBlock Counts c.args.self.now.path.now g.first c.pieces.place (g.F.Shelf.meaning c.pieces.ports.shelf) (g.O.Sink.meaning c.pieces.ports.out) c.pieces.rest.items c.pieces.kept.sum
    c.pieces.invariant.going (g.F.Shelf.meaning c.next_piece.new.ports.shelf) c.in_ok-n.ensures.later c.next_piece.new.into c.in_ok-n.n c.in_ok-n.ensures.bytes after c.in-Err.outcome
    (subst (λ o. IsPieceOutcome file IsBlock (g.O.Sink.meaning o) after text c.in-Err.outcome) c.in_ok-n.ensures.out c.in-Err.ensures.err)

pub pieces-preserved : goal.pieces-preserved
pieces-preserved g c =
    let IsBlock = g.B.LineBlocks.is_block c.args.self.now.blocks.now in
    let Counts = g.B.LineBlocks.counts c.args.self.now.blocks.now in
    let after = g.O.Sink.meaning c.answer_piece.new.out in
    let new = g.F.Shelf.meaning c.next_piece.new.ports.shelf in
    let text = c.pieces.rest.items ++ take c.in_ok-n.n c.next_piece.new.into in
    let done = c.in-Ok.ensures in
    let within : c.in_ok-n.n ≤ length c.next_piece.new.into = search rules in
    let going = going_on c.args.self.now.file IsBlock Counts c.args.self.now.path.now g.first c.pieces.place (g.F.Shelf.meaning c.pieces.ports.shelf) (g.O.Sink.meaning c.pieces.ports.out) c.pieces.rest.items c.pieces.kept.sum
    c.pieces.invariant.going new c.in_ok-n.ensures.later c.next_piece.new.into c.in_ok-n.n c.in_ok-n.ensures.bytes within after c.answer_piece.new.rest.items done.ok.0
    (subst (λ o. (g.O.Sink.meaning o).faults ≤ after.faults) c.in_ok-n.ensures.out done.later)
    (subst (λ o. AreAnswered IsBlock Counts (g.O.Sink.meaning o) after text c.answer_piece.new.rest.items done.ok.0) c.in_ok-n.ensures.out done.ok.1) done.begun in
    let long = length-take-le c.in_ok-n.n c.next_piece.new.into within in
    record {
      going = subst (λ (sum : ℕ). IsGoingOn IsBlock Counts c.args.self.now.path.now (c.pieces.place + c.in_ok-n.n) g.first (scene new after) c.answer_piece.new.rest.items sum) (sym done.ok.2) going;
      few = (let one = c.pieces.invariant.few in let two = done.few in omega (arith, one, two, long));
      early = (let one = c.in_ok-n.ensures.early in search (rules, arith));
    }
