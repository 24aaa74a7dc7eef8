use Rattle.plan_base.proofs.Common.{◌≤◌, AllWithin}
use Rattle.hierarchy.specs.{Entry, IsCore}
use Rattle.rounds.proofs.rounds.longest_along.Given as goal

abbrev pub invariant-loop-entry : goal.invariant-loop-entry
invariant-loop-entry l = record {
  most : AllWithin (λ (e : Entry). IsCore l.hierarchy.order e.from → IsCore l.hierarchy.order e.to → e.weight ≤ l.longest) l.entry-items 0 l.entry-index;
}
