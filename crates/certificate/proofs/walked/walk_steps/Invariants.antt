use Rattle.plan_base.proofs.Common.{◌≡◌}
use Rattle.certificate.proofs.WalkedLemmas.{IsWalking}
use Rattle.certificate.proofs.walked.walk_steps.Given as goal

abbrev pub invariant-loop-step : goal.invariant-loop-step
invariant-loop-step g l = record {
  place : l.place ≡ l.step-index;
  walking : IsWalking l.network (g.L.Labels.automaton l.labels) l.start l.at l.steps l.step-index l.walked;
}
