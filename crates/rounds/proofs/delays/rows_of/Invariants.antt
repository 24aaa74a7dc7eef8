use Rattle.plan_base.proofs.Common.{◌≡◌, ◌<◌, ℕ}
use Rattle.rounds.specs.inside.{HaveShape, cell, never}
use Rattle.rounds.proofs.delays.rows_of.Given as goal

abbrev pub invariant-loop : goal.invariant-loop
invariant-loop l = record {
  shape : HaveShape l.counter l.width l.rows.items;
  none : (k i : ℕ) → k < l.counter → i < l.width → cell l.rows.items k i ≡ never;
}
