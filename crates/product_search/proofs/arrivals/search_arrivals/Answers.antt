use Rattle.product_search.proofs.NotingLemmas.{are_arrivals}
use Rattle.product_search.proofs.arrivals.search_arrivals.Goals as goal

pub returns : goal.returns
returns g c =
    are_arrivals (g.G.Graph.meaning c.args.graph.now) (g.L.Labels.automaton c.args.machine.now.labels) c.args.starts.now c.args.dep c.args.targets.now.nodes.items
    c.args.targets.now.places.items c.in_ok-arrived.arrived.noted.times.items c.in_ok-list.list.items c.args.targets.now.placed
    c.in_ok-arrived.ensures.times c.in_ok-list.ensures
