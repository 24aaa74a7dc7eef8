use Rattle.plan_base.proofs.Common.{◌∙◌, List, ◌++◌, ◌∷◌, [], sym, subst, Vec, Global, get_or_default}
use Rattle.witness.specs.{Edge, AreEdgeRows, IsWalkWithin, NoWalkWithin, inside.IsSearch, inside.IsEdgePut, inside.IsWalkOffered, inside.NobodyBusy}
use Rattle.witness.proofs.SearchLemmas.{put_search}
use Rattle.contractor.specs.{declared.way.Way.Way, inside.IsSearchFor}
use Rattle.contractor.proofs.BridgeLemmas.{rows_are, inside, left_from, left_to, can_put, shortcut_more, witness_more}
use Rattle.contractor.proofs.bridging.bridge_way.Goals as goal

pub walk_to-requires-clause-rows : goal.walk_to-requires-clause-rows
walk_to-requires-clause-rows c =
    subst (λ (rows : List (Vec Edge Global)). AreEdgeRows rows) (sym c.deref.ensures.value) (rows_are (c.args.layer.now.order.items ++ c.args.crossing.now.node ∷ []) c.args.layer.now c.requires.state.layer)

pub put-requires-clause-from : goal.put-requires-clause-from
put-requires-clause-from c =
    let way = c.index-way.result.now in
    let is = λ (e : Way). get_or_default c.args.crossing.now.ways.items c.args.k e way c.requires.place ∙ sym c.index-way.ensures in
    left_from c.args.network.now c.args.crossing.now.node c.args.crossing.now.ways.items c.args.k c.args.layer.now c.known.ensures c.requires.state way c.requires.place is

pub put-requires-clause-to : goal.put-requires-clause-to
put-requires-clause-to c =
    let way = c.index-way.result.now in
    let is = λ (e : Way). get_or_default c.args.crossing.now.ways.items c.args.k e way c.requires.place ∙ sym c.index-way.ensures in
    left_to c.args.network.now c.args.crossing.now.node c.args.crossing.now.ways.items c.args.k c.args.layer.now c.known.ensures c.requires.state way c.requires.place is

pub put-requires-clause-fits : goal.put-requires-clause-fits
put-requires-clause-fits c =
    let way = c.index-way.result.now in
    let is = λ (e : Way). get_or_default c.args.crossing.now.ways.items c.args.k e way c.requires.place ∙ sym c.index-way.ensures in
    let r = subst (λ (y : Way). IsSearchFor c.args.layer.now y c.args.workspace.now) (is way) (c.requires.search way) in
    let none = subst (λ u. NoWalkWithin c.args.layer.now.rows.items u way.to way.sum) r.start
    (subst (λ (rows : List (Vec Edge Global)). NoWalkWithin rows c.args.workspace.now.start way.to way.sum) c.deref.ensures.value (rw c.in-None.is at c.in_ok-nodes.ensures.none)) in
    can_put c.args.network.now c.args.crossing.now.node c.args.crossing.now.ways.items c.args.k c.args.layer.now c.known.ensures c.requires.state way c.requires.place is none

pub returns-in_ok-push-in-Some-clause-state : goal.returns-in_ok-push-in-Some-clause-state
returns-in_ok-push-in-Some-clause-state c =
    let way = c.index-way.result.now in
    let is = λ (e : Way). get_or_default c.args.crossing.now.ways.items c.args.k e way c.requires.place ∙ sym c.index-way.ensures in
    let r = subst (λ (y : Way). IsSearchFor c.args.layer.now y c.args.workspace.now) (is way) (c.requires.search way) in
    let found = subst (λ u. IsWalkWithin c.args.layer.now.rows.items u way.to way.sum c.in-Some.nodes.items) r.start
    (subst (λ (rows : List (Vec Edge Global)). IsWalkWithin rows c.args.workspace.now.start way.to way.sum c.in-Some.nodes.items) c.deref.ensures.value (rw c.in-Some.is at c.in_ok-nodes.ensures.found)) in
    witness_more c.args.network.now c.args.crossing.now.node c.args.crossing.now.ways.items c.args.k c.args.layer.now c.known.ensures c.requires.state way c.requires.place is
    c.push.new.self c.in-Some.nodes.items (rw c.deref-in-Some.ensures.value at c.in_ok-push-in-Some.ensures) found

pub returns-in_ok-offer-in-None-clause-state : goal.returns-in_ok-offer-in-None-clause-state
returns-in_ok-offer-in-None-clause-state c =
    let way = c.index-way.result.now in
    let is = λ (e : Way). get_or_default c.args.crossing.now.ways.items c.args.k e way c.requires.place ∙ sym c.index-way.ensures in
    let r = subst (λ (y : Way). IsSearchFor c.args.layer.now y c.args.workspace.now) (is way) (c.requires.search way) in
    let none = subst (λ u. NoWalkWithin c.args.layer.now.rows.items u way.to way.sum) r.start
    (subst (λ (rows : List (Vec Edge Global)). NoWalkWithin rows c.args.workspace.now.start way.to way.sum) c.deref.ensures.value (rw c.in-None.is at c.in_ok-nodes.ensures.none)) in
    let e = c.in_ok-put-in-None.ensures in
    shortcut_more c.args.network.now c.args.crossing.now.node c.args.crossing.now.ways.items c.args.k c.args.layer.now c.known.ensures c.requires.state way c.requires.place is none c.put.new.layer e.count e.order e.witnesses e.put e.layer

pub returns-in_ok-offer-in-None-clause-search : goal.returns-in_ok-offer-in-None-clause-search
returns-in_ok-offer-in-None-clause-search c =
    let way = c.index-way.result.now in
    let is = λ (e : Way). get_or_default c.args.crossing.now.ways.items c.args.k e way c.requires.place ∙ sym c.index-way.ensures in
    let r = subst (λ (y : Way). IsSearchFor c.args.layer.now y c.args.workspace.now) (is way) (c.requires.search way) in
    let now = c.walk_to.new.workspace in
    let e = c.in_ok-nodes.ensures in
    let start = sym (e.same.start ∙ r.start) in
    put_search c.args.layer.now.rows.items c.put.new.layer.rows.items c.args.workspace.now.most way.to way.sum now c.offer.new.self
    (inside c.args.network.now c.args.crossing.now.node c.args.crossing.now.ways.items c.args.k c.args.layer.now c.known.ensures c.requires.state way c.requires.place is).to r.far
    (rw c.in-None.is at e.unreached)
    (subst (λ u. IsEdgePut c.args.layer.now.rows.items c.put.new.layer.rows.items u way.to way.sum) start c.in_ok-put-in-None.ensures.rows)
    (subst (λ u. IsWalkOffered now c.offer.new.self way.to way.sum u) start c.in_ok-offer-in-None.ensures)
    (subst (λ (rows : List (Vec Edge Global)). IsSearch rows c.args.workspace.now.most NobodyBusy now) c.deref.ensures.value e.search)
