use Rattle.plan_base.proofs.Common.{ℕ, ◌<◌}
use Rattle.search_laws.specs.LabelLaws.{IsMove}
use Rattle.descents.proofs.delays.stays.Given as goal

abbrev pub invariant-loop-i : goal.invariant-loop-i
invariant-loop-i g l = (k : ℕ) → k < l.i → IsMove (g.L.Labels.automaton l.automaton) l.state l.letter l.state k → ⊥
