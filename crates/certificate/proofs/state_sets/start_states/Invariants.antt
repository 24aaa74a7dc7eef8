use Rattle.plan_base.proofs.Common.{◌≡◌, ℕ, ◌<◌, ◌↔◌, length, IsTrue}
use Rattle.certificate.specs.{IsInSet}
use Rattle.certificate.proofs.state_sets.start_states.Given as goal

abbrev pub invariant-loop-state : goal.invariant-loop-state
invariant-loop-state g l = record {
  size : length l.set.items ≡ l.state;
  are : (q : ℕ) → IsInSet l.set.items q ↔ ((q < l.state) × IsTrue ((g.L.Labels.automaton l.labels).is_start q));
}
