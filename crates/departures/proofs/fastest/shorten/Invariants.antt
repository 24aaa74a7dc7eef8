use Rattle.plan_base.proofs.Common.{ℕ, ◌+◌, ◌<◌, length}
use Rattle.departures.specs.inside.{AreShortened, FitsBetweenCalls}
use Rattle.departures.proofs.fastest.shorten.Given as goal

abbrev pub invariant-loop-k : goal.invariant-loop-k
invariant-loop-k l = record {
  shorter : AreShortened l.initial.stretches l.stretches;
  within : (k : ℕ) → k < l.k → k + 1 < length l.calls → FitsBetweenCalls l.calls l.stretches k;
}
