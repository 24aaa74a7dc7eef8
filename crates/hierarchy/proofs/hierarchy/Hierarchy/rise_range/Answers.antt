use Rattle.plan_base.proofs.Common.{◌≡◌, ◌∙◌, ℕ, length, ap, rules, subst, sym}
use Rattle.mode_network.specs.{range_of}
use Rattle.hierarchy.specs.{HierarchyLists, IsRiseRange, all_rises, rise_from}
use Rattle.hierarchy.proofs.RiseLemmas.{is_rise_range, range_found, range_past}
use Rattle.hierarchy.proofs.hierarchy.Hierarchy.rise_range.Goals as goal

pub returns-then-u-self-clause-range : goal.returns-then-u-self-clause-range
returns-then-u-self-clause-range c =
    subst (λ (h : HierarchyLists). (c.index.result.now.rises, c.index-then-u-self.result.now.rises) ≡ range_of rise_from (all_rises h) c.args.u) c.self.view_is
    (range_found c.self.inside.lists.order c.self.inside.lists.entries c.self.inside.tables.nodes c.self.inside.tables.rows.items c.self.invariant.tables.rows c.args.u c.if-u-self.true c.index.result.now c.index-then-u-self.result.now c.index.ensures c.index-then-u-self.ensures).0

pub returns-then-u-self-clause-are : goal.returns-then-u-self-clause-are
returns-then-u-self-clause-are c =
    let range = (range_found c.self.inside.lists.order c.self.inside.lists.entries c.self.inside.tables.nodes c.self.inside.tables.rows.items c.self.invariant.tables.rows c.args.u c.if-u-self.true c.index.result.now c.index-then-u-self.result.now c.index.ensures c.index-then-u-self.ensures).0 in
    subst (λ (h : HierarchyLists). IsRiseRange h c.args.u (all_rises h) c.index.result.now.rises c.index-then-u-self.result.now.rises) c.self.view_is
    (subst (λ (r : ℕ × ℕ). IsRiseRange c.self.inside.lists c.args.u (all_rises c.self.inside.lists) r.0 r.1) (sym range) (is_rise_range c.self.inside.lists c.self.invariant.rules c.args.u))

pub returns-else-u-self-clause-range : goal.returns-else-u-self-clause-range
returns-else-u-self-clause-range c =
    let count : c.len-count.result ≡ length c.self.inside.tables.rises.items = search rules in
    subst (λ (h : HierarchyLists). (c.len-count.result, c.len-count.result) ≡ range_of rise_from (all_rises h) c.args.u) c.self.view_is
    (range_past c.self.inside.lists c.args.u c.self.inside.tables.nodes c.len-count.result c.if-u-self.false c.self.invariant.tables.entries_below (count ∙ ap length c.self.invariant.tables.rises))

pub returns-else-u-self-clause-are : goal.returns-else-u-self-clause-are
returns-else-u-self-clause-are c =
    let count : c.len-count.result ≡ length c.self.inside.tables.rises.items = search rules in
    let range = range_past c.self.inside.lists c.args.u c.self.inside.tables.nodes c.len-count.result c.if-u-self.false c.self.invariant.tables.entries_below (count ∙ ap length c.self.invariant.tables.rises) in
    subst (λ (h : HierarchyLists). IsRiseRange h c.args.u (all_rises h) c.len-count.result c.len-count.result) c.self.view_is
    (subst (λ (r : ℕ × ℕ). IsRiseRange c.self.inside.lists c.args.u (all_rises c.self.inside.lists) r.0 r.1) (sym range) (is_rise_range c.self.inside.lists c.self.invariant.rules c.args.u))
