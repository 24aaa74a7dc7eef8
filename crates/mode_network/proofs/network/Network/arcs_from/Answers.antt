use Rattle.plan_base.proofs.Common.{◌≡◌, ◌<◌, ℕ, length, refl, subst, sym}
use Rattle.mode_network.specs.{NodeRow, nodes_of, IsRange, range_from, NetworkLists.NetworkLists}
use Rattle.mode_network.proofs.IndexLemmas.{range_read, range_is_range}
use Rattle.mode_network.proofs.network.Network.arcs_from.Goals as goal

pub returns-clause-range : goal.returns-clause-range
returns-clause-range c =
    let inside = subst (λ (n : NetworkLists). c.args.v < length (nodes_of n)) (sym c.self.view_is) c.requires in
    subst (λ (n : NetworkLists). (c.index.result.now.arcs, c.index-2.result.now.arcs) ≡ range_from n.arcs c.args.v) c.self.view_is
    (range_read _ _ _ _ _ c.self.invariant.indexes.rows (λ (row : NodeRow). row.arcs) c.self.inside.arcs.items (λ w. refl) c.args.v inside _ _ c.index.ensures c.index-2.ensures)

pub returns-clause-within : goal.returns-clause-within
returns-clause-within c =
    let inside = subst (λ (n : NetworkLists). c.args.v < length (nodes_of n)) (sym c.self.view_is) c.requires in
    let range = range_read _ _ _ _ _ c.self.invariant.indexes.rows (λ (row : NodeRow). row.arcs) c.self.inside.arcs.items (λ w. refl) c.args.v inside _ _ c.index.ensures c.index-2.ensures in
    subst (λ (n : NetworkLists). IsRange (c.index.result.now.arcs, c.index-2.result.now.arcs) n.arcs) c.self.view_is
    (subst (λ (r : ℕ × ℕ). IsRange r c.self.inside.arcs.items) (sym range) (range_is_range c.self.inside.arcs.items c.args.v))
