use Rattle.plan_base.proofs.Common.{◌≤◌, ◌∙◌, ap, get_or, refl, subst, sym, arith, slice_get_read}
use Rattle.witness.specs.{Edge, items_of, inside.IsSearch, inside.IsBusy, inside.IsEdgeClosed, inside.work}
use Rattle.witness.proofs.SearchLemmas.{closed_more, all_closed, closed_now}
use Rattle.witness.proofs.search.relax.Goals as goal

pub edges-preserved : goal.edges-preserved
edges-preserved c =
    let e = c.in_ok-relax_edge.ensures in
    let i = c.edges.invariant in
    let most = c.args.workspace.now.most in
    let new = c.relax_edge.new.workspace in
    let d : Edge = record { to = 0; entry = 0; weight = 0 } in
    record {
      search = subst (λ k. IsSearch c.args.rows.now k (IsBusy c.args.node c.args.at) new) i.same.most e.search;
      reached = e.lower c.args.node c.args.at i.reached;
      same = (let a = e.same in let b = i.same in record { round = a.round ∙ b.round; start = a.start ∙ b.start; most = a.most ∙ b.most });
      less = (let now = subst (λ k. work k new ≤ work k c.edges.workspace) i.same.most e.work in let was = i.less in omega arith);
      closed = closed_more most c.edges.workspace new c.args.at c.deref-edge-items.result.now c.edges.edge-index d c.edges-test.true i.closed e.lower
          (subst (λ k. IsEdgeClosed k new c.args.at (get_or c.deref-edge-items.result.now c.edges.edge-index d)) i.same.most e.closed);
    }

pub returns-clause-search : goal.returns-clause-search
returns-clause-search c =
    let i = c.edges.invariant in
    let row = c.index-rows-node in
    closed_now c.args.rows.now c.args.workspace.now.most c.edges.workspace c.args.at c.args.node
    (all_closed c.args.rows.now c.args.workspace.now.most c.edges.workspace c.args.at c.args.node c.deref-edge-items.result.now c.edges.edge-index
    (ap items_of (slice_get_read c.args.rows.now _ c.args.node row.result refl c.requires.node row.is) ∙ sym c.deref-edge-items.ensures.value)
    c.edges-test.false i.closed)
    i.search
