use Rattle.plan_base.proofs.Common.{◌+◌, ◌∙◌, sym, subst, arith, get_or_default}
use Rattle.service_days.specs.{AreDays, AreRisingDays}
use Rattle.journey.specs.{KeepsRules}
use Rattle.departures.proofs.SettingOffLemmas.{IsWaiting, waiting_more, waited_at_ride, waited_at_none, waited_at_end}
use Rattle.departures.proofs.setting_off.waited.Goals as goal

pub returns-then-is_ride-clause-later : goal.returns-then-is_ride-clause-later
returns-then-is_ride-clause-later c =
    waited_at_ride c.args.network.now c.args.start c.args.at c.args.steps.now c.loop-step.step-index _ _ _ _ c.loop-step.invariant c.loop-step-test.true
    (get_or_default c.args.steps.now c.loop-step.step-index _ _ c.loop-step-test.true) (sym c.is_ride.ensures ∙ c.if-is_ride.true)

pub returns-in_default-clause-later : goal.returns-in_default-clause-later
returns-in_default-clause-later c =
    waited_at_none c.args.network.now c.args.start c.args.at c.args.steps.now c.loop-step.step-index _ _ _ _ c.loop-step.invariant c.loop-step-test.true
    (get_or_default c.args.steps.now c.loop-step.step-index _ _ c.loop-step-test.true) c.in_default.ensures

pub loop-step-preserved : goal.loop-step-preserved
loop-step-preserved c =
    let n = c.args.network.now in
    let rules : KeepsRules n = record {
      network = c.known.ensures;
      days = subst AreDays c.days.ensures c.known-2.ensures.days;
      order = subst AreRisingDays c.days.ensures c.known-2.ensures.order;
    } in
    let more = waiting_more n rules c.args.start c.args.at c.args.steps.now c.requires.waits c.loop-step.step-index _ _ _ _ c.loop-step.invariant c.loop-step-test.true
    (get_or_default c.args.steps.now c.loop-step.step-index _ _ c.loop-step-test.true) (sym c.is_ride.ensures ∙ c.if-is_ride.false) _ _ _ c.in-Some.ensures in
    subst (λ k. IsWaiting n c.args.start c.args.at c.args.steps.now (c.loop-step.step-index + 1) c.in-Some.next.node c.in-Some.next.at (c.loop-step.waited + k))
    (sym c.waiting-waited.ensures) more

pub returns-clause-later : goal.returns-clause-later
returns-clause-later c =
    waited_at_end c.args.network.now c.args.start c.args.at c.args.steps.now c.loop-step.step-index _ _ _ c.loop-step.invariant (omega arith)
