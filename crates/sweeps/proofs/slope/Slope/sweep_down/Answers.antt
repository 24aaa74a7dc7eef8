use Rattle.plan_base.proofs.Common.{◌≡◌, ◌+◌, ◌-◌, ◌<◌, length, subst, arith}
use Rattle.sweeps.specs.Sweeps.{time_at}
use Rattle.sweeps.specs.inside.Steps.{IsGathered}
use Rattle.sweeps.proofs.SweepLemmas.{DownFrom, down_more}
use Rattle.sweeps.proofs.slope.Slope.sweep_down.Goals as goal

pub loop-i-preserved : goal.loop-i-preserved
loop-i-preserved c =
    let s = c.args.self.now in
    let k = c.loop-i.i - 1 in
    let back : c.loop-i.i ≡ k + 1 = omega (arith, c.loop-i-test.true) in
    let inside : k < length s.nodes.items = omega (arith, c.loop-i-test.true, c.loop-i.auto.i, c.len-i.ensures) in
    record {
      down = down_more s c.args.times.now k c.loop-i.times c.gathered.result inside (omega (arith, inside, c.requires.each)) (subst (λ n. DownFrom s c.args.times.now n c.loop-i.times) back c.loop-i.invariant.down)
          (subst (λ legs. IsGathered c.loop-i.times (time_at c.loop-i.times k) legs c.gathered.result) c.row.ensures c.gathered.ensures);
    }

pub returns-clause-closed : goal.returns-clause-closed
returns-clause-closed c = λ i j w leads below. c.loop-i.invariant.down.closed i j w (omega (arith, c.loop-i-test.false)) leads below
