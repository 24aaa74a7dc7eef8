use Rattle.plan_base.proofs.Common.{List, take, get_or, sym, subst, arith, take_more}
use Rattle.search_laws.specs.{Leg}
use Rattle.sweeps.specs.inside.Steps.{AreSpread}
use Rattle.sweeps.proofs.StepLemmas.{spread_more}
use Rattle.sweeps.proofs.sweeping.spread.Goals as goal

pub loop-leg-preserved : goal.loop-leg-preserved
loop-leg-preserved c =
    let legs = c.args.legs.now in
    let k = c.loop-leg.leg-index in
    let none : Leg = record { to = 0; ms = 0 } in
    record {
      spread = subst (λ (taken : List Leg). AreSpread c.args.t taken c.args.times.now c.lower.new.times) (sym (take_more legs k none c.loop-leg-test.true))
          (spread_more c.args.t (take k legs) (get_or legs k none) c.args.times.now c.loop-leg.times c.lower.new.times c.saturating_add.result c.loop-leg.invariant.spread (record { small = λ below. omega (arith, c.saturating_add.ensures); great = λ past. omega (arith, c.saturating_add.ensures) }) c.lower.ensures);
    }
