use Rattle.plan_base.proofs.Common.{◌+◌, ◌<◌, length, refl, sym, subst, arith}
use Rattle.sweeps.specs.Sweeps.{time_at}
use Rattle.sweeps.specs.inside.Steps.{AreSpread}
use Rattle.sweeps.proofs.SweepLemmas.{UpTo, up_ends, up_more, up_passes}
use Rattle.sweeps.proofs.sheet.Sheet.sweep_up.Goals.{then-t-limit, else-t-limit}
use Rattle.sweeps.proofs.sheet.Sheet.sweep_up.Goals as goal

pub loop-i-preserved : goal.loop-i-preserved
loop-i-preserved c =
    let s = c.args.self.now in
    let before = c.args.times.now in
    let i = c.loop-i.i in
    let now = c.loop-i.times in
    let inside : i < length s.slope.nodes.items = omega (arith, c.loop-i-test.true, c.len-i-end.ensures) in
    record {
      up = elim c.if-t-limit.branch [
        | then-t-limit w ↦ subst (UpTo s c.args.limit before (i + 1)) (sym w.times-is)
            (up_more s c.args.limit before i now c.loop-i.invariant.up w.spread.new.times (time_at now i) refl inside (omega (arith, c.ranges.limit.fits))
            (subst (λ legs. AreSpread (time_at now i) legs now w.spread.new.times) w.row.ensures w.spread.ensures))
        | else-t-limit w ↦ subst (UpTo s c.args.limit before (i + 1)) (sym w.times-is) (up_passes s c.args.limit before i now c.loop-i.invariant.up (omega (arith, w.if-t-limit)))
      ];
    }

pub returns-clause-closed : goal.returns-clause-closed
returns-clause-closed c = up_ends c.args.self.now c.args.limit c.args.times.now c.loop-i.i c.loop-i.times (omega (arith, c.loop-i-test.false, c.len-i-end.ensures)) c.loop-i.invariant.up
