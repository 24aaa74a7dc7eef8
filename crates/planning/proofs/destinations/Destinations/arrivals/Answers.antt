use Rattle.plan_base.proofs.Common.{List, ℕ, sym, subst, IfOk-weaker}
use Rattle.automaton.specs.{collapsed, position_meaning}
use Rattle.mode_expression.specs.{form_of}
use Rattle.planning.specs.{AreArrivalsTo, AreNumberArrivals}
use Rattle.planning.proofs.{DestinationLemmas.all_arrivals, DestinationLemmas.parts_fit}
use Rattle.kept_automata.proofs.TextLemmas.{query_spells}
use Rattle.planning.proofs.destinations.Destinations.arrivals.Goals as goal

pub take-requires-clause-spelled : goal.take-requires-clause-spelled
take-requires-clause-spelled c = query_spells c.args.self.now.network.now _ _ _ _ _ c.requires.read.asks

pub earliest_of_each-requires : goal.earliest_of_each-requires
earliest_of_each-requires c = rw (c.deref-2.ensures.value, c.deref-3.ensures.value) (parts_fit c.args.self.now c.requires.ready c.in_ok-times.times.items c.in_ok-times.ensures.one_each)

pub returns : goal.returns
returns c =
    let d = c.args.self.now in
    let q = c.args.query.now in
    let labels = c.in_ok-expressed.expressed.made.labels.inner in
    let l = collapsed (position_meaning labels) in
    let denotes = c.positions_accept.ensures.collapsed (form_of q.expr) c.requires.read.usable (position_meaning labels) labels.lawful c.in_ok-expressed.ensures in
    let are = subst (λ (vs : List ℕ). AreNumberArrivals d l vs q.depart c.in_ok-times.times.items) c.deref.ensures.value c.in_ok-times.ensures in
    let all = all_arrivals d c.requires.ready c.in_ok-times.times.items c.known.ensures q l denotes c.in_ok-origins.origins.items c.in_ok-origins.ensures.are are in
    IfOk-weaker c.earliest_of_each.result _ _ (λ list is. subst (AreArrivalsTo d.network.now q d.queries.now) (sym is) all) (rw (c.deref-2.ensures.value, c.deref-3.ensures.value) at c.earliest_of_each.ensures)
