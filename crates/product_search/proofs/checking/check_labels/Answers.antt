use Rattle.product_search.proofs.BoundLemmas.{ascending_in_order, bound}
use Rattle.product_search.proofs.checking.check_labels.Goals as goal

pub first_open_start-requires-clause-ascending : goal.first_open_start-requires-clause-ascending
first_open_start-requires-clause-ascending g c =
    ascending_in_order (g.G.Graph.meaning c.args.graph.now) (g.L.Labels.automaton c.args.labels.now) c.args.claim.now.arrival c.args.claim.now.list.now c.in_default.ensures

pub first_open_arcs-requires-clause-ascending : goal.first_open_arcs-requires-clause-ascending
first_open_arcs-requires-clause-ascending g c =
    ascending_in_order (g.G.Graph.meaning c.args.graph.now) (g.L.Labels.automaton c.args.labels.now) c.args.claim.now.arrival c.args.claim.now.list.now c.in_default.ensures

pub returns-clause-bound : goal.returns-clause-bound
returns-clause-bound g c = λ is.
    bound (g.G.Graph.meaning c.args.graph.now) (g.met.G.Graph.lawful c.args.graph.now) (g.L.Labels.automaton c.args.labels.now)
    c.args.claim.now.starts.now c.args.claim.now.targets.now c.args.claim.now.departure c.args.claim.now.arrival c.args.claim.now.list.now
    (record {
      in_order = c.in_default.ensures;
      starts_listed = c.in_default-first_open_start.ensures;
      no_end = c.in_default-first_end.ensures;
      arcs_listed = c.in_default-first_open_arcs.ensures;
    })
