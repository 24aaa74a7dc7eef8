use Rattle.plan_base.proofs.Common.{◌≡◌, ℕ, ◌<◌, false}
use Rattle.rounds.specs.inside.{asked_of, row_of, AreCrossedOn, AreRiding}
use Rattle.rounds.proofs.asked.Asked.ride_all.Given as goal

abbrev pub invariant-loop-state : goal.invariant-loop-state
invariant-loop-state g l = record {
  riding : AreRiding (asked_of {l = g.L.Labels} l.self) l.rows.items l.rides.items;
  taken : AreCrossedOn (asked_of {l = g.L.Labels} l.self) l.initial.rows.items l.rows.items l.changed;
  all : l.changed ≡ false → (q : ℕ) → q < l.state → row_of l.rides.items q ≡ row_of l.rows.items q;
}
