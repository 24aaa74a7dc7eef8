use Rattle.plan_base.proofs.Common.{◌≡◌}
use Rattle.journey.proofs.WalkLemmas.{IsWalking}
use Rattle.journey.proofs.real.walk.Given as goal

abbrev pub invariant-loop-step : goal.invariant-loop-step
invariant-loop-step l = (l.place ≡ l.step-index) × IsWalking l.network l.start l.at l.steps l.step-index l.end.0 l.end.1
