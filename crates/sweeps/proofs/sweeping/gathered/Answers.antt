use Rattle.plan_base.proofs.Common.{List, take, get_or, sym, subst, arith, take_more, cases_lt, inl, inr}
use Rattle.search_laws.specs.{Leg}
use Rattle.sweeps.specs.inside.Steps.{IsGathered}
use Rattle.sweeps.proofs.StepLemmas.{gathered_more}
use Rattle.sweeps.proofs.sweeping.gathered.Goals as goal

pub loop-leg-preserved : goal.loop-leg-preserved
loop-leg-preserved c =
    let legs = c.args.legs.now in
    let k = c.loop-leg.leg-index in
    let none : Leg = record { to = 0; ms = 0 } in
    record {
      gathered = subst (λ (taken : List Leg). IsGathered c.args.times.now c.args.t taken c.min-least.result) (sym (take_more legs k none c.loop-leg-test.true))
          (gathered_more c.args.times.now c.args.t (take k legs) (get_or legs k none) c.loop-leg.least c.saturating_add.result c.min-least.result c.ranges.t.fits c.loop-leg.invariant.gathered
          (record { small = λ below. omega (arith, c.saturating_add.ensures); great = λ past. omega (arith, c.saturating_add.ensures) })
          (omega (arith, c.min-least.ensures)) (omega (arith, c.min-least.ensures))
          (elim (cases_lt c.saturating_add.result c.loop-leg.least) [ inl less ↦ inr (omega (arith, c.min-least.ensures)) | inr more ↦ inl (omega (arith, c.min-least.ensures)) ]));
    }
