use Rattle.plan_base.proofs.Common.{◌≡◌, ◌+◌, arith}
use Rattle.product_search.specs.inside.{IsByWays, IsSuccessor}
use Rattle.product_search.proofs.{OfferLemmas.reached_keeps, OfferLemmas.offers_weaker, GivenLemmas.visit_of, GivenLemmas.read_alone, GivenLemmas.read_among, GivenLemmas.given_keeps, GivenLemmas.given_more, TakenLemmas.ways_letters, TakenLemmas.ways_times, TakenLemmas.by_ways, TakenLemmas.arcs_past_reached}
use Rattle.product_search.proofs.explore.explore_fresh.Goals as goal

pub explore_ways-requires-clause-letters : goal.explore_ways-requires-clause-letters
explore_ways-requires-clause-letters g c =
    let t = c.time.result in
    ways_letters (g.G.Graph.meaning c.args.graph.now) (g.L.Labels.automaton c.args.machine.now.labels) c.args.frontier.now.base c.args.from t _ _ c.time.ensures.at c.requires.within _
    (read_among (read_alone (visit_of c.args.from t c.letters_of.result c.leaving.result) c.in_ok-fresh_ways.ensures c.clear.ensures.items c.deref.ensures.value))
    (g.met.G.Graph.lawful c.args.graph.now) c.requires.node

pub explore_ways-requires-clause-times : goal.explore_ways-requires-clause-times
explore_ways-requires-clause-times g c =
    let t = c.time.result in
    ways_times (g.G.Graph.meaning c.args.graph.now) (g.L.Labels.automaton c.args.machine.now.labels) c.args.frontier.now.base c.args.from t _ _ c.time.ensures.at c.requires.within _
    (read_among (read_alone (visit_of c.args.from t c.letters_of.result c.leaving.result) c.in_ok-fresh_ways.ensures c.clear.ensures.items c.deref.ensures.value))
    (g.met.G.Graph.lawful c.args.graph.now) c.requires.node

pub returns-clause-offers : goal.returns-clause-offers
returns-clause-offers g c =
    let graph = g.G.Graph.meaning c.args.graph.now in
    let labels = g.L.Labels.automaton c.args.machine.now.labels in
    let s = c.args.from in
    let old = c.args.frontier.now in
    let t = c.time.result in
    offers_weaker old c.explore_ways.new.frontier (IsByWays labels old.base s c.deref.result.now) (IsSuccessor graph labels old.base s)
    (by_ways graph labels old.base s t _ _ c.time.ensures.at c.requires.within _
    (read_among (read_alone (visit_of s t c.letters_of.result c.leaving.result) c.in_ok-fresh_ways.ensures c.clear.ensures.items c.deref.ensures.value)) c.requires.node)
    c.in_ok-explore_ways.ensures.offers

pub returns-clause-reached : goal.returns-clause-reached
returns-clause-reached g c =
    let graph = g.G.Graph.meaning c.args.graph.now in
    let labels = g.L.Labels.automaton c.args.machine.now.labels in
    let s = c.args.from in
    let old = c.args.frontier.now in
    let new = c.explore_ways.new.frontier in
    let t = c.time.result in
    let successor = IsSuccessor graph labels old.base s in
    let offers = returns-clause-offers g c in
    let read = read_alone (visit_of s t c.letters_of.result c.leaving.result) c.in_ok-fresh_ways.ensures c.clear.ensures.items c.deref.ensures.value in
    let there : new.base + s.delay ≡ t = omega (arith, offers.base, c.time.ensures.at) in
    rw there (arcs_past_reached graph labels s.node s.state t _ new c.letters_of.ensures _ _ c.leaving.ensures
    (reached_keeps old new successor offers s.node s.state t (rw c.time.ensures.at c.requires.here))
    read.moving read.parts _ _ _ read.fresh.rest
    (given_keeps labels (g.G.Graph.rides c.args.graph.now) old new c.args.given.now successor offers c.requires.given)
    c.in_ok-explore_ways.ensures.reached)

pub returns-clause-given : goal.returns-clause-given
returns-clause-given g c =
    let labels = g.L.Labels.automaton c.args.machine.now.labels in
    let s = c.args.from in
    let old = c.args.frontier.now in
    let new = c.explore_ways.new.frontier in
    given_more labels _ new
    (read_alone (visit_of s c.time.result c.letters_of.result c.leaving.result) c.in_ok-fresh_ways.ensures c.clear.ensures.items c.deref.ensures.value).fresh
    c.in_ok-explore_ways.ensures.reached
    (given_keeps labels (g.G.Graph.rides c.args.graph.now) old new c.args.given.now (IsSuccessor (g.G.Graph.meaning c.args.graph.now) labels old.base s)
    (returns-clause-offers g c) c.requires.given)
