use Rattle.plan_base.proofs.Common.{◌∙◌, sym, subst, arith}
use Rattle.mode_network.specs.NetworkLists.{NetworkLists}
use Rattle.journey.specs.{asked_by, AreTheCopies}
use Rattle.departures.specs.inside.{search_labels, NoneTakesLess}
use Rattle.departures.proofs.{FirstLemmas.none_accepted, LeastLemmas.none_found, OrderLemmas.not_before, ReaderLemmas.pair_rises}
use Rattle.departures.proofs.search.RideSearch.may_take_less.Goals as goal

pub invariant_of-question-clause-starts_there : goal.invariant_of-question-clause-starts_there
invariant_of-question-clause-starts_there c = rw (c.deref.ensures.value, c.requires.same) c.requires.search.start_nodes

pub returns : goal.returns
returns c off =
    let s = c.args.self.now in
    let least = c.args.least.now in
    let q = asked_by s.query.now in
    let same = sym c.requires.same in
    let arrival = rw (c.deref.ensures.value, c.deref-2.ensures.value) at c.in_ok-best.ensures.arrival in
    subst (λ (n : NetworkLists). NoneTakesLess n q c.args.c) c.requires.same
    (none_found least.plain.network.now least.plain.kept least.plain.timetable.now c.known.ensures least.plain.of least.runs.items least.fastest q (search_labels s)
    s.origins.items s.destinations.items c.requires.search.reads
    (subst (λ (n : NetworkLists). AreTheCopies n q.from s.origins.items) same c.requires.search.origin)
    (subst (λ (n : NetworkLists). AreTheCopies n q.to s.destinations.items) same c.requires.search.destination)
    c.args.c _ _ (omega arith) (omega arith) arrival (sym c.is_some.ensures ∙ off))

pub returns-then-c-eq0 : goal.returns-then-c-eq0
returns-then-c-eq0 c off p pair =
    let s = c.args.self.now in
    let rises = pair_rises s.plain.network.now s.plain.kept (asked_by s.query.now) p pair in
    omega (arith, c.if-c-eq0.true, rises)

pub returns-then-not-self : goal.returns-then-not-self
returns-then-not-self c off p pair =
    let s = c.args.self.now in
    let n = s.plain.network.now in
    let q = asked_by s.query.now in
    absurd (none_accepted n s.plain.kept s.plain.timetable.now q (search_labels s) s.origins.items s.destinations.items
    c.requires.search.reads c.requires.search.journeys c.requires.search.origin c.requires.search.destination q.depart (omega arith) (c.requires.search.none c.if-not-self.true)
    p pair (not_before n q p pair))
