use Rattle.plan_base.proofs.Common.{◌≡◌, length, sym, subst}
use Rattle.hierarchy.specs.{HierarchyLists, height_in}
use Rattle.hierarchy.proofs.HeightLemmas.{height_past}
use Rattle.hierarchy.proofs.hierarchy.Hierarchy.height.Goals as goal

pub returns-else-v-self : goal.returns-else-v-self
returns-else-v-self c =
    let core = height_past c.self.inside.lists.order c.args.v c.self.inside.tables.nodes c.self.invariant.tables.order_below c.if-v-self.false in
    rw c.order.ensures (subst (λ (h : HierarchyLists). length h.order ≡ height_in h.order c.args.v) c.self.view_is (sym core))
