use Rattle.plan_base.proofs.Common.{ℕ, ◌<◌, IsTrue}
use Rattle.certificate.specs.{IsInSet}
use Rattle.certificate.proofs.state_sets.StateSets.accepts.Given as goal

abbrev pub invariant-loop-state : goal.invariant-loop-state
invariant-loop-state g l = (q : ℕ) → q < l.state → IsInSet l.self.reached.items q → IsTrue ((g.L.Labels.automaton l.labels).accepts q) → ⊥
