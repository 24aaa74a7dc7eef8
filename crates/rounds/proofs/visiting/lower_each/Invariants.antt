use Rattle.plan_base.proofs.Common.{◌≡◌, ◌≤◌, false, AllWithin, Contains}
use Rattle.rounds.specs.inside.{AreLowered, cell}
use Rattle.rounds.proofs.visiting.lower_each.Given as goal

abbrev pub invariant-loop-state : goal.invariant-loop-state
invariant-loop-state l = record {
  lowered : AreLowered (λ k i t. Contains l.states k × (i ≡ l.place) × (t ≡ l.delay)) l.initial.rows.items l.rows.items;
  here : AllWithin (λ q. cell l.rows.items q l.place ≤ l.delay) l.states 0 l.state-index;
  same : l.changed ≡ false → l.rows.items ≡ l.initial.rows.items;
}
