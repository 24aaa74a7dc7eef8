use Rattle.plan_base.proofs.Common.{◌+◌, ◌<◌, length, refl, arith}
use Rattle.witness.specs.inside.{IsBusy, HasParent}
use Rattle.witness.proofs.SearchLemmas.{offered_search, offered_less, offered_lower, offered_here}
use Rattle.witness.proofs.search.relax_edge.Goals as goal

pub overflow_add-sum : goal.overflow_add-sum
overflow_add-sum c = let e = c.requires.rows.edges c.args.node c.args.edge c.requires.edge in omega (arith, e.light)

pub offer-requires : goal.offer-requires
offer-requires c = let e = c.requires.rows.edges c.args.node c.args.edge c.requires.edge in omega (arith, e.to, c.requires.search.count)

inside : (c : goal.In_ok-offer) → c.args.edge.to < length c.args.workspace.now.places.items
inside c = let e = c.requires.rows.edges c.args.node c.args.edge c.requires.edge in omega (arith, e.to, c.requires.search.count)

parent : (c : goal.In_ok-offer) → HasParent c.args.rows.now c.args.workspace.now c.args.edge.to (c.args.at + c.args.edge.weight) c.args.node
parent c = record { before = c.args.at; weight = c.args.edge.weight; reached = c.requires.reached; edge = (c.args.edge.entry, c.requires.edge); sum = refl }

pub returns-in_ok-offer-clause-search : goal.returns-in_ok-offer-clause-search
returns-in_ok-offer-clause-search c =
    offered_search c.args.rows.now c.args.workspace.now.most (IsBusy c.args.node c.args.at) c.args.workspace.now c.offer.new.self c.args.edge.to (c.args.at + c.args.edge.weight) c.args.node (inside c)
    c.in_ok-offer.ensures c.if-sum-workspace.true (parent c) c.requires.search

pub returns-in_ok-offer-clause-work : goal.returns-in_ok-offer-clause-work
returns-in_ok-offer-clause-work c =
    offered_less c.args.rows.now c.args.workspace.now.most (IsBusy c.args.node c.args.at) c.args.workspace.now c.offer.new.self c.args.edge.to (c.args.at + c.args.edge.weight) c.args.node (inside c)
    c.in_ok-offer.ensures c.if-sum-workspace.true

pub returns-in_ok-offer-clause-lower : goal.returns-in_ok-offer-clause-lower
returns-in_ok-offer-clause-lower c =
    offered_lower c.args.rows.now c.args.workspace.now.most (IsBusy c.args.node c.args.at) c.args.workspace.now c.offer.new.self c.args.edge.to (c.args.at + c.args.edge.weight) c.args.node (inside c)
    c.in_ok-offer.ensures

pub returns-in_ok-offer-clause-closed : goal.returns-in_ok-offer-clause-closed
returns-in_ok-offer-clause-closed c = λ le.
    offered_here c.args.rows.now c.args.workspace.now.most (IsBusy c.args.node c.args.at) c.args.workspace.now c.offer.new.self c.args.edge.to (c.args.at + c.args.edge.weight) c.args.node (inside c)
    c.in_ok-offer.ensures
