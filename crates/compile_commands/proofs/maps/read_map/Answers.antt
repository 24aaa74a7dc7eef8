use Rattle.plan_base.proofs.Common.{ℕ, rules, arith, subst, err_from_is_err_and}
use Rattle.plan_base.specs.{Gave}
use Rattle.run_steps.proofs.Steps.{later_twice, not_earlier}
use Rattle.compile_commands.proofs.{MapLemmas.starts, MapLemmas.fed_more, MapLemmas.too_long, MapLemmas.piece_fails, MapLemmas.read_whole_map, MapLemmas.end_fails, ResultLemmas.ok_more, ResultLemmas.err_more}
use Rattle.compile_commands.proofs.maps.read_map.Goals as goal

pub pieces-init : goal.pieces-init
pieces-init g c =
    (not_earlier (g.F.Shelf.meaning c.args.shelf.now), search rules, starts c.args.caps.now (g.F.Shelf.meaning c.args.shelf.now) c.args.name.now c.new-opl.result c.new-opl.ensures)

pub returns-then-n-eq0-clause-ok : goal.returns-then-n-eq0-clause-ok
returns-then-n-eq0-clause-ok g c =
    let old = g.F.Shelf.meaning c.args.shelf.now in
    let now = g.F.Shelf.meaning c.pieces.shelf in
    let invariant = c.pieces.invariant in
    let gave = subst (λ (n : ℕ). Gave now c.args.name.now c.pieces.taken n c.read_piece.new.into) c.if-n-eq0.true c.in_ok-n.ensures.bytes in
    let file = read_whole_map c.args.caps.now old now invariant.0 c.args.name.now c.read_piece.new.into c.pieces.taken c.pieces.opl invariant.2 (search rules) invariant.1 gave in
    ok_more c.finished.result (λ objects spells. record { bytes = invariant.2.bytes; file = file; spells = spells }) (c.finished.ensures.objects c.args.caps.now invariant.2.bytes invariant.2.taken)

pub returns-then-n-eq0-clause-err : goal.returns-then-n-eq0-clause-err
returns-then-n-eq0-clause-err g c =
    let old = g.F.Shelf.meaning c.args.shelf.now in
    let now = g.F.Shelf.meaning c.pieces.shelf in
    let invariant = c.pieces.invariant in
    let gave = subst (λ (n : ℕ). Gave now c.args.name.now c.pieces.taken n c.read_piece.new.into) c.if-n-eq0.true c.in_ok-n.ensures.bytes in
    err_more c.finished.result
    (end_fails c.args.caps.now old now invariant.0 c.args.name.now c.read_piece.new.into c.pieces.taken c.pieces.opl invariant.2 (search rules) invariant.1 gave (g.F.Shelf.meaning c.read_piece.new.shelf))
    (c.finished.ensures.err c.args.caps.now invariant.2.bytes invariant.2.taken)

pub returns-then-taken-gt-MOST_BYTES-clause-err : goal.returns-then-taken-gt-MOST_BYTES-clause-err
returns-then-taken-gt-MOST_BYTES-clause-err g c =
    let old = g.F.Shelf.meaning c.args.shelf.now in
    let now = g.F.Shelf.meaning c.pieces.shelf in
    let invariant = c.pieces.invariant in
    rw c.refused.ensures
    (too_long c.args.caps.now old now invariant.0 c.args.name.now c.read_piece.new.into c.in_ok-n.n c.pieces.taken c.pieces.opl invariant.2 (search rules) c.in_ok-n.ensures.bytes
    (g.F.Shelf.meaning c.read_piece.new.shelf) (omega arith))

pub returns-in_err-take_piece-clause-err : goal.returns-in_err-take_piece-clause-err
returns-in_err-take_piece-clause-err g c =
    let old = g.F.Shelf.meaning c.args.shelf.now in
    let now = g.F.Shelf.meaning c.pieces.shelf in
    let invariant = c.pieces.invariant in
    let p = err_from_is_err_and c.from_residual-in_err-take_piece.result c.from_residual-in_err-take_piece.ensures.1 in
    rw (p.1, p.2)
    (piece_fails c.args.caps.now old now invariant.0 c.args.name.now c.read_piece.new.into c.in_ok-n.n c.pieces.taken c.pieces.opl invariant.2 (search rules) c.in_ok-n.ensures.bytes
    (g.F.Shelf.meaning c.read_piece.new.shelf) _ (c.in_err-take_piece.ensures.err c.args.caps.now invariant.2.bytes invariant.2.taken))

pub pieces-preserved : goal.pieces-preserved
pieces-preserved g c =
    let old = g.F.Shelf.meaning c.args.shelf.now in
    let now = g.F.Shelf.meaning c.pieces.shelf in
    let invariant = c.pieces.invariant in (
      later_twice old now (g.F.Shelf.meaning c.read_piece.new.shelf) invariant.0 c.in_ok-n.ensures.later,
      search rules,
      fed_more c.args.caps.now old now invariant.0 c.args.name.now c.read_piece.new.into c.in_ok-n.n c.pieces.taken c.pieces.opl invariant.2 (search rules) c.in_ok-n.ensures.bytes
          c.take_piece.new.opl (c.in_ok-take_piece.ensures.taken c.args.caps.now invariant.2.bytes invariant.2.taken),
    )
