use Rattle.plan_base.proofs.Common.{◌≤◌, ◌-◌, length}
use Rattle.contractor.specs.inside.{AreEmptyLists}
use Rattle.contractor.proofs.beginning.empty_lists.Given as goal

abbrev pub invariant-lists : goal.invariant-lists
invariant-lists g l = record {
  few : length (l.lists).items ≤ l.count;
  empty : AreEmptyLists (length (l.lists).items) (l.lists).items;
}

abbrev pub decreases-lists : goal.decreases-lists
decreases-lists g l = l.count - length (l.lists).items
