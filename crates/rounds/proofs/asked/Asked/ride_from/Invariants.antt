use Rattle.plan_base.proofs.Common.{ℕ, ◌<◌}
use Rattle.rounds.specs.{Line}
use Rattle.rounds.specs.inside.{asked_of, AreCrossedOn, IsLineOf, IsRiddenAlong}
use Rattle.rounds.proofs.asked.Asked.ride_from.Given as goal

abbrev pub invariant-loop-pattern : goal.invariant-loop-pattern
invariant-loop-pattern g l = record {
  taken : AreCrossedOn (asked_of {l = g.L.Labels} l.self) l.initial.rows.items l.rows.items l.changed;
  ridden : (p : ℕ) (line : Line) → p < l.pattern → IsLineOf (asked_of {l = g.L.Labels} l.self) p line → IsRiddenAlong (asked_of {l = g.L.Labels} l.self) l.rows.items l.state p line.crossings.items l.delays;
}
