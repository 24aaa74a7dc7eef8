use Rattle.plan_base.proofs.Common.{◌+◌, ◌<◌, length, sym, subst, arith, All}
use Rattle.timetable_arcs.specs.{Call}
use Rattle.rounds.specs.{IsLine}
use Rattle.rounds.proofs.LineLemmas.{AreLinesBelow, named_stops, lines_more}
use Rattle.rounds.proofs.lines.lines_of.Goals as goal

pub line_of-requires : goal.line_of-requires
line_of-requires c =
    let n = c.args.network.now in
    subst (All (λ (call : Call). call.stop < length n.stop_names)) (sym c.pattern_calls-calls.ensures)
    (named_stops n c.known.ensures c.args.timetable.now c.requires.table c.requires.of c.loop-pattern.pattern (omega (arith, c.loop-pattern-test.true, c.patterns-pattern-end.ensures)))

pub loop-pattern-preserved : goal.loop-pattern-preserved
loop-pattern-preserved c =
    let n = c.args.network.now in
    let t = c.args.timetable.now in
    let nodes = c.args.places.nodes.now in
    let p = c.loop-pattern.pattern in
    let line = c.in-Some.line in
    record {
      below = subst (AreLinesBelow n t nodes (p + 1)) (sym c.in_ok-push.ensures.items) (lines_more n t nodes p c.loop-pattern.lines.items line c.loop-pattern.invariant.below
          (subst (λ calls. IsLine n nodes calls line.crossings.items) c.pattern_calls-calls.ensures (rw c.in-Some.is at c.in_ok-line.ensures)));
    }
