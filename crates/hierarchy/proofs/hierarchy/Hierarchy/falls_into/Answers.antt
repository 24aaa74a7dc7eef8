use Rattle.plan_base.proofs.Common.{◌≡◌, [], sym, subst}
use Rattle.hierarchy.specs.{HierarchyLists, falls_into}
use Rattle.hierarchy.proofs.FallLemmas.{none_past}
use Rattle.hierarchy.proofs.hierarchy.Hierarchy.falls_into.Goals as goal

pub returns-else-x-self : goal.returns-else-x-self
returns-else-x-self c =
    subst (λ (h : HierarchyLists). [] ≡ falls_into h c.args.x) c.self.view_is
    (sym (none_past c.self.inside.lists.order c.self.inside.lists.entries c.self.inside.tables.nodes c.args.x c.self.invariant.tables.entries_below c.if-x-self.false))
