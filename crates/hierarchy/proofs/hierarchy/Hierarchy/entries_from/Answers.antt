use Rattle.plan_base.proofs.Common.{◌≡◌, ℕ, ◌+◌, ◌<◌, ◌∙◌, length, sym, ap, subst, arith, All, All-weaker}
use Rattle.mode_network.specs.{count_below, range_of}
use Rattle.hierarchy.specs.{Entry, HierarchyLists, AreFrom, from_of, AreEndsBelow}
use Rattle.hierarchy.proofs.{LookupLemmas.from_rises, OffsetLemmas.are_from, OffsetLemmas.none_from, RiseLemmas.range_found}
use Rattle.mode_network.proofs.KeyLemmas.{count_all}
use Rattle.hierarchy.proofs.hierarchy.Hierarchy.entries_from.Goals as goal

below : (entries : _) (nodes : ℕ) → All (AreEndsBelow nodes) entries → All (λ (e : Entry). e.from < nodes) entries
below entries nodes all = All-weaker (AreEndsBelow nodes) (λ (e : Entry). e.from < nodes) (λ e h. h.0) entries all

pub returns-then-u-self-clause-range : goal.returns-then-u-self-clause-range
returns-then-u-self-clause-range c =
    subst (λ (h : HierarchyLists). (c.index.result.now.entries, c.index-then-u-self.result.now.entries) ≡ range_of from_of h.entries c.args.u) c.self.view_is
    (range_found c.self.inside.lists.order c.self.inside.lists.entries c.self.inside.tables.nodes c.self.inside.tables.rows.items c.self.invariant.tables.rows c.args.u c.if-u-self.true c.index.result.now c.index-then-u-self.result.now c.index.ensures c.index-then-u-self.ensures).1

pub returns-then-u-self-clause-are : goal.returns-then-u-self-clause-are
returns-then-u-self-clause-are c =
    let entries = c.self.inside.lists.entries in
    let range = (range_found c.self.inside.lists.order entries c.self.inside.tables.nodes c.self.inside.tables.rows.items c.self.invariant.tables.rows c.args.u c.if-u-self.true c.index.result.now c.index-then-u-self.result.now c.index.ensures c.index-then-u-self.ensures).1 in
    subst (λ (h : HierarchyLists). AreFrom h.entries c.args.u c.index.result.now.entries c.index-then-u-self.result.now.entries) c.self.view_is
    (subst (λ (r : ℕ × ℕ). AreFrom entries c.args.u r.0 r.1) (sym range) (are_from entries (from_rises entries c.self.invariant.rules.entries_ascend) c.args.u))

pub returns-else-u-self-clause-range : goal.returns-else-u-self-clause-range
returns-else-u-self-clause-range c =
    let entries = c.self.inside.lists.entries in
    let lower = below entries c.self.inside.tables.nodes c.self.invariant.tables.entries_below in
    let low : count_below from_of entries c.args.u ≡ length entries =
    count_all from_of entries c.args.u (All-weaker (λ (e : Entry). e.from < c.self.inside.tables.nodes) (λ (e : Entry). e.from < c.args.u) (λ e h. omega (arith, c.if-u-self.false)) entries lower) in
    let high : count_below from_of entries (c.args.u + 1) ≡ length entries =
    count_all from_of entries (c.args.u + 1) (All-weaker (λ (e : Entry). e.from < c.self.inside.tables.nodes) (λ (e : Entry). e.from < c.args.u + 1) (λ e h. omega (arith, c.if-u-self.false)) entries lower) in
    let same = ap (λ n. (n, length entries)) (sym low) ∙ ap (λ n. (count_below from_of entries c.args.u, n)) (sym high) in
    rw c.entries.ensures (subst (λ (h : HierarchyLists). (length h.entries, length h.entries) ≡ range_of from_of h.entries c.args.u) c.self.view_is same)

pub returns-else-u-self-clause-are : goal.returns-else-u-self-clause-are
returns-else-u-self-clause-are c =
    let entries = c.self.inside.lists.entries in
    rw c.entries.ensures (subst (λ (h : HierarchyLists). AreFrom h.entries c.args.u (length h.entries) (length h.entries)) c.self.view_is
    (none_from entries c.args.u c.self.inside.tables.nodes c.if-u-self.false (below entries c.self.inside.tables.nodes c.self.invariant.tables.entries_below)))
