use Rattle.plan_base.proofs.Common.{◌∙◌, ◌<◌, sym, subst, All, IfOk-weaker}
use Rattle.phase_graph.specs.{starts_in, meaning_in_use}
use Rattle.planning.specs.{hierarchy_searched}
use Rattle.planning.proofs.{PlanLemmas.starts_low, DestinationLemmas.by_search, DestinationLemmas.served, DestinationLemmas.by_descents}
use Rattle.planning.proofs.destinations.Destinations.number_arrivals.Goals as goal

pub arrivals-requires-clause-ends : goal.arrivals-requires-clause-ends
arrivals-requires-clause-ends g c = rw c.deref-in-Some.ensures.value (served c.args.self.now c.requires.ready c.in-Some.descents c.in-Some.is)

pub returns-in-Some-2 : goal.returns-in-Some-2
returns-in-Some-2 g c =
    let are = rw (c.in-Some-2.is, c.deref.ensures.value, c.in_ok-starts.ensures, c.deref-in-Some.ensures.value) at c.in_ok-times.ensures in
    by_descents c.args.self.now c.requires.ready c.in-Some.descents c.in-Some.is _ c.args.origins.now c.args.dep c.in-Some-2.times.items are

pub search_arrivals-requires-clause-starts : goal.search_arrivals-requires-clause-starts
search_arrivals-requires-clause-starts g c =
    let d = c.args.self.now in
    let graph = meaning_in_use d.graph in
    subst (All (λ v. v < graph.nodes)) (sym (c.deref-2.ensures.value ∙ c.in_ok-starts.ensures))
    (starts_low d.network.now (hierarchy_searched d) c.requires.ready.targets graph c.requires.ready.in_use c.args.origins.now c.requires.origins)

pub returns : goal.returns
returns g c =
    let d = c.args.self.now in
    let h = hierarchy_searched d in
    IfOk-weaker c.search_arrivals.result _ _ (λ times are. by_search h (meaning_in_use d.graph) _ (starts_in h c.args.origins.now) d.table.nodes.items c.args.dep times.items are)
    (rw (c.deref-2.ensures.value, c.in_ok-starts.ensures) at c.search_arrivals.ensures)
