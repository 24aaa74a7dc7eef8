use Rattle.plan_base.proofs.Common.{All, IsTrue, take}
use Rattle.rounds.proofs.asked.Asked.has_start.Given as goal

-- none of the first so many is one
abbrev pub invariant-loop-state : goal.invariant-loop-state
invariant-loop-state g l = record { none : All (λ q. IsTrue ((g.L.Labels.automaton l.self.machine.now.labels).is_start q) → ⊥) (take l.state-index l.states) }
