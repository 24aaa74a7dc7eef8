use Rattle.plan_base.proofs.Common.{Some, refl, ◌∙◌, arith, All, All-contains, on_ok_weaker}
use Rattle.search_laws.specs.{Follows}
use Rattle.product_search.specs.inside.{IsByLegs, IsByLegsIn, IsSuccessor, LegIsReached}
use Rattle.product_search.proofs.{LegLemmas.by_legs, LegLemmas.legs_reached, MoveLemmas.targets_after, OfferLemmas.offers_weaker}
use Rattle.product_search.proofs.explore.explore_steady.Goals as goal

pub returns-in-None-clause-offers : goal.returns-in-None-clause-offers
returns-in-None-clause-offers g c =
    let graph = g.G.Graph.meaning c.args.graph.now in
    let labels = g.L.Labels.automaton c.args.machine.now.labels in
    let from = c.args.from in
    let old = c.args.frontier.now in
    let steady = c.steady-steady.ensures in
    let legs = c.steady-steady.result.legs.now in
    on_ok_weaker c.offer_legs.result (offers_weaker old c.offer_legs.new.frontier (IsByLegs from from.state legs) (IsSuccessor graph labels old.base from)
    (λ w r x by. by_legs graph labels from legs _ steady.within (λ k inside. steady.letter k inside ∙ c.in-None.is) steady.legs old.base c.requires.node from.state
    w r x refl by)) c.offer_legs.ensures.offers

pub returns-in-None-clause-reached : goal.returns-in-None-clause-reached
returns-in-None-clause-reached g c =
    let steady = c.steady-steady.ensures in
    on_ok_weaker c.offer_legs.result (λ reached i lt.
    legs_reached (g.G.Graph.meaning c.args.graph.now) (g.L.Labels.automaton c.args.machine.now.labels) c.args.from c.steady-steady.result.legs.now _ steady.within
    (λ k inside. steady.letter k inside ∙ c.in-None.is) steady.legs c.offer_legs.new.frontier reached i (omega (arith, steady.count, lt)))
    c.offer_legs.ensures.reached

pub returns-in-Some-clause-offers : goal.returns-in-Some-clause-offers
returns-in-Some-clause-offers g c =
    let graph = g.G.Graph.meaning c.args.graph.now in
    let labels = g.L.Labels.automaton c.args.machine.now.labels in
    let from = c.args.from in
    let old = c.args.frontier.now in
    let letter = c.in-Some.letter in
    let steady = c.steady-steady.ensures in
    let legs = c.steady-steady.result.legs.now in
    let states = c.targets_of-states.result.now in
    on_ok_weaker c.offer_to_states.result (offers_weaker old c.offer_to_states.new.frontier (IsByLegsIn from states legs) (IsSuccessor graph labels old.base from)
    (λ w r x by. by_legs graph labels from legs (Some letter) steady.within (λ k inside. steady.letter k inside ∙ c.in-Some.is) steady.legs old.base c.requires.node
    by.0 w r x (All-contains (Follows labels from.state (Some letter)) states by.0 c.targets_of-states.ensures.are by.1) by.2))
    c.offer_to_states.ensures.offers

pub returns-in-Some-clause-reached : goal.returns-in-Some-clause-reached
returns-in-Some-clause-reached g c =
    let labels = g.L.Labels.automaton c.args.machine.now.labels in
    let from = c.args.from in
    let letter = c.in-Some.letter in
    let new = c.offer_to_states.new.frontier in
    let steady = c.steady-steady.ensures in
    let legs = c.steady-steady.result.legs.now in
    on_ok_weaker c.offer_to_states.result (λ reached i lt.
    legs_reached (g.G.Graph.meaning c.args.graph.now) labels from legs (Some letter) steady.within (λ k inside. steady.letter k inside ∙ c.in-Some.is) steady.legs new
    (targets_after labels from.state letter c.targets_of-states.result.now c.targets_of-states.ensures (λ next. All (LegIsReached new next from.delay) legs) reached)
    i (omega (arith, steady.count, lt)))
    c.offer_to_states.ensures.reached
