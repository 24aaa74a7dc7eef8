use Rattle.plan_base.proofs.Common.{ℕ, ◌+◌, ap, sym, subst, arith, get_or_default}
use Rattle.journey.specs.{IsFirstBad}
use Rattle.certificate.proofs.WalkedLemmas.{walking_more, walking_ends, walked_all}
use Rattle.certificate.proofs.walked.walk_steps.Goals as goal

pub returns-in_default : goal.returns-in_default
returns-in_default g c =
    subst (λ (p : ℕ). IsFirstBad c.args.network.now c.args.start c.args.at c.args.steps.now p) (sym c.loop-step.invariant.place)
    (walking_ends c.args.network.now (g.L.Labels.automaton c.args.labels.now) c.args.start c.args.at c.args.steps.now c.loop-step.step-index c.loop-step.walked _
    c.loop-step.invariant.walking c.loop-step-test.true (get_or_default c.args.steps.now c.loop-step.step-index _ _ c.loop-step-test.true) c.in_default.ensures)

pub loop-step-preserved : goal.loop-step-preserved
loop-step-preserved g c = record {
  place = ap (λ (p : ℕ). p + 1) c.loop-step.invariant.place;
  walking = walking_more c.args.network.now (g.L.Labels.automaton c.args.labels.now) c.args.start c.args.at c.args.steps.now c.keeps_rules.ensures c.requires.waits
      c.loop-step.step-index c.loop-step.walked c.go_on.new.self _ c.in-Some.end c.loop-step.invariant.walking c.loop-step-test.true
      (get_or_default c.args.steps.now c.loop-step.step-index _ _ c.loop-step-test.true) c.in-Some.ensures
      (record { node = c.go_on.ensures.node; at = c.go_on.ensures.at; states = c.go_on.ensures.states });
}

pub returns : goal.returns
returns g c =
    walked_all c.args.network.now (g.L.Labels.automaton c.args.labels.now) c.args.start c.args.at c.args.steps.now c.loop-step.step-index c.loop-step.walked
    (omega arith) c.loop-step.invariant.walking
