use Rattle.plan_base.proofs.Common.{ℕ, ◌<◌, slice_index_or}
use Rattle.mode_network.specs.{Step}
use Rattle.journey.specs.{HasTime}
use Rattle.library_cases.proofs.certificates.have_times.Given as goal

abbrev pub invariant-loop-step : goal.invariant-loop-step
invariant-loop-step l = (k : ℕ) (d : Step) → k < l.step-index → HasTime (slice_index_or l.steps k d)
