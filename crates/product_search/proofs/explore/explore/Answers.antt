use Rattle.plan_base.proofs.Common.{◌≡◌, ◌+◌, [], refl, subst, arith, All-nil}
use Rattle.product_search.specs.inside.{Offers, WayIsReached, IsSuccessor}
use Rattle.product_search.proofs.{OfferLemmas.arc_keeps, OfferLemmas.reached_keeps, OfferLemmas.offers_more, GivenLemmas.visit_of, GivenLemmas.read_alone, GivenLemmas.given_keeps, TakenLemmas.arcs_past_reached, TakenLemmas.arcs_reached}
use Rattle.product_search.proofs.explore.explore.Goals as goal

pub explore_fresh-requires-clause-given : goal.explore_fresh-requires-clause-given
explore_fresh-requires-clause-given g c =
    let graph = g.G.Graph.meaning c.args.graph.now in
    let labels = g.L.Labels.automaton c.args.machine.now.labels in
    given_keeps labels (g.G.Graph.rides c.args.graph.now) c.args.frontier.now c.explore_steady.new.frontier c.args.given.now (IsSuccessor graph labels c.args.frontier.now.base c.args.from)
    c.in_ok-explore_steady.ensures.offers c.requires.given

pub returns-clause-offers : goal.returns-clause-offers
returns-clause-offers g c =
    let graph = g.G.Graph.meaning c.args.graph.now in
    let labels = g.L.Labels.automaton c.args.machine.now.labels in
    let s = c.args.from in
    let old = c.args.frontier.now in
    let mid = c.explore_steady.new.frontier in
    let new = c.explore_fresh.new.frontier in
    offers_more old mid new (IsSuccessor graph labels old.base s) c.in_ok-explore_steady.ensures.offers
    (subst (λ b. Offers mid new (IsSuccessor graph labels b s)) c.in_ok-explore_steady.ensures.offers.base c.in_ok-explore_fresh.ensures.offers)

pub returns-clause-reached : goal.returns-clause-reached
returns-clause-reached g c =
    let graph = g.G.Graph.meaning c.args.graph.now in
    let labels = g.L.Labels.automaton c.args.machine.now.labels in
    let s = c.args.from in
    let mid = c.explore_steady.new.frontier in
    let new = c.explore_fresh.new.frontier in
    let offers = c.in_ok-explore_fresh.ensures.offers in
    let there : mid.base + s.delay ≡ new.base + s.delay = omega (arith, offers.base) in
    arcs_reached graph labels new s.node s.state (new.base + s.delay) _
    (λ i lt. arc_keeps graph labels mid new (IsSuccessor graph labels mid.base s) offers s.node s.state (new.base + s.delay) i (rw (← there) (c.in_ok-explore_steady.ensures.reached i lt)))
    c.in_ok-explore_fresh.ensures.reached

pub returns-then-not-may_have_fresh-clause-given : goal.returns-then-not-may_have_fresh-clause-given
returns-then-not-may_have_fresh-clause-given g c =
    let graph = g.G.Graph.meaning c.args.graph.now in
    let labels = g.L.Labels.automaton c.args.machine.now.labels in
    given_keeps labels (g.G.Graph.rides c.args.graph.now) c.args.frontier.now c.explore_steady.new.frontier c.args.given.now (IsSuccessor graph labels c.args.frontier.now.base c.args.from)
    c.in_ok-explore_steady.ensures.offers c.requires.given

pub returns-then-not-may_have_fresh-clause-reached : goal.returns-then-not-may_have_fresh-clause-reached
returns-then-not-may_have_fresh-clause-reached g c =
    let graph = g.G.Graph.meaning c.args.graph.now in
    let labels = g.L.Labels.automaton c.args.machine.now.labels in
    let s = c.args.from in
    let old = c.args.frontier.now in
    let new = c.explore_steady.new.frontier in
    let t = new.base + s.delay in
    let read = read_alone (visit_of s t c.letters_of-letters.result c.leaving-leaving.result)
    (c.may_have_fresh.ensures c.if-not-may_have_fresh.true t s.state c.args.given.now) refl refl in
    let offers = c.in_ok-explore_steady.ensures.offers in
    let here : old.base + s.delay ≡ t = omega (arith, offers.base) in
    arcs_reached graph labels new s.node s.state t _ c.in_ok-explore_steady.ensures.reached
    (arcs_past_reached graph labels s.node s.state t _ new c.letters_of-letters.ensures _ _ c.leaving-leaving.ensures
    (reached_keeps old new (IsSuccessor graph labels old.base s) offers s.node s.state t (rw (← here) c.requires.here))
    read.moving read.parts _ _ [] read.fresh.rest (returns-then-not-may_have_fresh-clause-given g c) (All-nil (WayIsReached labels new s.state)))
