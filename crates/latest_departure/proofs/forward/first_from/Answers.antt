use Rattle.plan_base.proofs.Common.{IfOk-weaker}
use Rattle.automaton.specs.{collapsed, position_meaning}
use Rattle.journey.specs.{asked_by}
use Rattle.unpack.proofs.TakenLemmas.{walk_is_plain}
use Rattle.latest_departure.specs.inside.{leaving}
use Rattle.latest_departure.proofs.ForwardLemmas.{found_first}
use Rattle.latest_departure.proofs.forward.first_from.Goals as goal

pub invariant_of-question-clause-starts_there : goal.invariant_of-question-clause-starts_there
invariant_of-question-clause-starts_there c = rw (c.new-plain.ensures.network, c.deref.ensures.value) c.requires.ends.target_nodes

pub unpacked-requires : goal.unpacked-requires
unpacked-requires c =
    let n = c.args.network.now in
    let q = leaving (asked_by c.args.query.now) c.args.at in
    let s = c.args.search.now in
    let labels = c.in_ok-expressed.expressed.made.labels.inner in
    let walk = rw (c.new-plain.ensures.network, c.deref.ensures.value, c.deref-2.ensures.value) at c.in_ok-best.ensures.walk in
    rw c.new-plain.ensures.network (walk_is_plain n c.new-plain.result.timetable.now q (collapsed (position_meaning labels)) s.targets.items s.starts.items
    c.requires.ends.origin c.requires.ends.destination _ _ walk)

pub returns : goal.returns
returns c =
    let n = c.args.network.now in
    let q = leaving (asked_by c.args.query.now) c.args.at in
    let s = c.args.search.now in
    let labels = c.in_ok-expressed.expressed.made.labels.inner in
    let inner = position_meaning labels in
    let reads = c.positions_accept.ensures.collapsed q.form c.requires.usable inner labels.lawful c.in_ok-expressed.ensures in
    let walk = rw (c.new-plain.ensures.network, c.deref.ensures.value, c.deref-2.ensures.value) at c.in_ok-best.ensures.walk in
    let arrival = rw (c.new-plain.ensures.network, c.deref.ensures.value, c.deref-2.ensures.value) at c.in_ok-best.ensures.arrival in
    IfOk-weaker c.unpacked.result _ _ (λ journey is. found_first n c.known.ensures c.new-plain.result.timetable.now q (collapsed inner) s.targets.items s.starts.items reads c.new-plain.ensures.journeys
    c.requires.ends.origin c.requires.ends.destination _ _ _ arrival walk c.requires.soon is) (rw c.new-plain.ensures.network at c.unpacked.ensures)
