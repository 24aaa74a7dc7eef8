use Rattle.plan_base.proofs.Common.{◌≡◌, ◌∙◌, List, subst, sym, arith}
use Rattle.witness.specs.inside.{IsSearch, NobodyBusy}
use Rattle.contractor.specs.{declared.way.Way.Way, inside.IsBridging, inside.IsEndOf}
use Rattle.contractor.proofs.BridgeLemmas.{search_for}
use Rattle.contractor.proofs.bridging.bridge_from.Goals as goal

pub bridge_way-requires-clause-search : goal.bridge_way-requires-clause-search
bridge_way-requires-clause-search c = λ d.
    let i = c.ways.invariant in
    search_for c.args.network.now c.args.crossing.now.node c.args.crossing.now.ways.items c.ways.k c.ways.layer i.state c.args.place c.end_of-end.result c.ways.k d (subst (λ (ws : List Way). IsEndOf ws c.args.place c.end_of-end.result) c.deref.ensures.value c.end_of-end.ensures) i.after c.ways-test.true
    c.ways.workspace i.search (i.start d) (i.most d)

pub ways-preserved : goal.ways-preserved
ways-preserved c =
    let i = c.ways.invariant in
    let e = c.in_ok-bridge_way.ensures in
    record {
      state = e.state;
      after = (let le = i.after in omega arith);
      inside = (let lt = c.ways-test.true in omega arith);
      search = subst (λ m. IsSearch c.bridge_way.new.layer.rows.items m NobodyBusy c.bridge_way.new.workspace) (sym e.same.most) e.search;
      start = λ d. e.same.start ∙ i.start d;
      most = λ d. e.same.most ∙ i.most d;
      order = e.order ∙ i.order;
      count = e.count ∙ i.count;
    }

pub returns-clause-state : goal.returns-clause-state
returns-clause-state c =
    let i = c.ways.invariant in
    let at_end : c.ways.k ≡ c.end_of-end.result = (let le = i.inside in let ge = c.ways-test.false in omega arith) in
    subst (λ k. IsBridging c.args.network.now c.args.crossing.now.node c.args.crossing.now.ways.items k c.ways.layer) at_end i.state
