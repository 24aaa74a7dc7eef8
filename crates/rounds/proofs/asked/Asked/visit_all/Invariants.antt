use Rattle.plan_base.proofs.Common.{◌≡◌, ℕ, ◌<◌, false, length}
use Rattle.rounds.specs.inside.{asked_of, cell, never, AreCrossedOn, AreVisiting}
use Rattle.rounds.proofs.asked.Asked.visit_all.Given as goal

abbrev pub invariant-loop-state : goal.invariant-loop-state
invariant-loop-state g l = record {
  visiting : AreVisiting (asked_of {l = g.L.Labels} l.self) l.rows.items l.visits.items;
  taken : AreCrossedOn (asked_of {l = g.L.Labels} l.self) l.initial.rows.items l.rows.items l.changed;
  all : l.changed ≡ false → (q j : ℕ) → q < l.state → j < length l.self.rounds.now.crossings.items → cell l.rows.items q j < never → cell l.visits.items q j ≡ cell l.rows.items q j;
}
