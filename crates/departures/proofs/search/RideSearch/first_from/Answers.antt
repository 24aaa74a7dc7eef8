use Rattle.plan_base.proofs.Common.{IfOk-weaker}
use Rattle.journey.specs.{asked_by}
use Rattle.unpack.proofs.TakenLemmas.{walk_is_plain}
use Rattle.latest_departure.specs.inside.{leaving}
use Rattle.departures.specs.inside.{search_labels}
use Rattle.departures.proofs.FirstLemmas.{walk_soon, none_accepted, first_row}
use Rattle.departures.proofs.search.RideSearch.first_from.Goals as goal

pub invariant_of-question-clause-starts_there : goal.invariant_of-question-clause-starts_there
invariant_of-question-clause-starts_there c = rw c.deref.ensures.value c.requires.search.start_nodes

pub returns-then-not-self : goal.returns-then-not-self
returns-then-not-self c =
    let s = c.args.self.now in
    none_accepted s.plain.network.now s.plain.kept s.plain.timetable.now (asked_by s.query.now) (search_labels s) s.origins.items s.destinations.items
    c.requires.search.reads c.requires.search.journeys c.requires.search.origin c.requires.search.destination c.args.at c.requires.late (c.requires.search.none c.if-not-self.true)

pub unpacked-requires-clause-walk : goal.unpacked-requires-clause-walk
unpacked-requires-clause-walk c =
    let s = c.args.self.now in
    let walk = rw (c.deref.ensures.value, c.deref-2.ensures.value) at c.in_ok-best.ensures.walk in
    walk_is_plain s.plain.network.now s.plain.timetable.now (leaving (asked_by s.query.now) c.args.at) (search_labels s) s.origins.items s.destinations.items
    c.requires.search.origin c.requires.search.destination _ _ walk

pub unpacked-requires-clause-soon : goal.unpacked-requires-clause-soon
unpacked-requires-clause-soon c = walk_soon _ _ _ _ c.args.at _ _ c.in_ok-best.ensures.walk c.requires.soon

pub returns : goal.returns
returns c =
    let s = c.args.self.now in
    let walk = rw (c.deref.ensures.value, c.deref-2.ensures.value) at c.in_ok-best.ensures.walk in
    let arrival = rw (c.deref.ensures.value, c.deref-2.ensures.value) at c.in_ok-best.ensures.arrival in
    IfOk-weaker c.unpacked.result _ _ (λ row is. first_row s.plain.network.now s.plain.kept s.plain.timetable.now (asked_by s.query.now) (search_labels s) s.origins.items s.destinations.items
    c.requires.search.reads c.requires.search.journeys c.requires.search.origin c.requires.search.destination c.args.at c.requires.late _ _ _ arrival walk c.requires.soon
    c.in_ok-best.ensures.time is) c.unpacked.ensures
