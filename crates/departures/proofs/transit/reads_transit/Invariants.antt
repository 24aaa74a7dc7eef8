use Rattle.plan_base.proofs.Common.{ℕ, ◌<◌}
use Rattle.departures.specs.inside.{NoneByTransit}
use Rattle.departures.proofs.transit.reads_transit.Given as goal

abbrev pub invariant-loop-q : goal.invariant-loop-q
invariant-loop-q g l = (q : ℕ) → q < l.q → NoneByTransit (g.L.Labels.automaton l.labels) q
