use Rattle.plan_base.proofs.Common.{◌≡◌, ℕ, ◌<◌, false}
use Rattle.rounds.specs.inside.{asked_of, cell, never, AreCrossedOn, AreLowered, AreVisiting}
use Rattle.rounds.proofs.VisitLemmas.{IsAny}
use Rattle.rounds.proofs.asked.Asked.visit_state.Given as goal

abbrev pub invariant-loop-crossing : goal.invariant-loop-crossing
invariant-loop-crossing g l = record {
  visiting : AreVisiting (asked_of {l = g.L.Labels} l.self) l.rows.items l.visits.items;
  taken : AreCrossedOn (asked_of {l = g.L.Labels} l.self) l.initial.rows.items l.rows.items l.changed;
  lowered : AreLowered IsAny l.initial.visits.items l.visits.items;
  all : l.changed ≡ false → (j : ℕ) → j < l.crossing → cell l.rows.items l.state j < never → cell l.visits.items l.state j ≡ cell l.rows.items l.state j;
}
