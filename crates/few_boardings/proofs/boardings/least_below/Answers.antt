use Rattle.plan_base.proofs.Common.{◌+◌, ◌-◌, ◌≡◌, ◌≤◌, subst, arith, IfOk-weaker}
use Rattle.automaton.specs.{collapsed, position_meaning}
use Rattle.mode_expression.specs.{form_of}
use Rattle.journey.specs.{asked_by}
use Rattle.unpack.proofs.TakenLemmas.{walk_is_plain}
use Rattle.kept_automata.proofs.TextLemmas.{query_spells}
use Rattle.few_boardings.specs.{AtMost, counted, IsLeastBelow}
use Rattle.few_boardings.proofs.FoundLemmas.{counting_of, found_below}
use Rattle.few_boardings.proofs.boardings.least_below.Goals as goal

pub take-requires-clause-spelled : goal.take-requires-clause-spelled
take-requires-clause-spelled c = query_spells c.args.network.now _ _ _ _ _ c.requires.asks

pub unpacked-requires : goal.unpacked-requires
unpacked-requires c =
    let n = c.args.network.now in
    let is = c.in_ok-expressed.ensures in
    let inner = position_meaning c.in_ok-expressed.expressed.made.labels.inner.inner in
    let walk = rw (c.new-plain.ensures.network, c.deref.ensures.value, c.deref-2.ensures.value, is.on_side, is.limited) at c.in_ok-best.ensures.walk in
    rw c.new-plain.ensures.network (walk_is_plain n c.new-plain.result.timetable.now (asked_by c.args.query.now) (counted (collapsed inner) AtMost (c.args.limit - 1))
    c.in_ok-starts.starts.items c.in_ok-targets.targets.items c.in_ok-starts.ensures.are c.in_ok-targets.ensures.are _ _ walk)

pub returns : goal.returns
returns c =
    let n = c.args.network.now in
    let q = c.args.query.now in
    let most = c.args.limit - 1 in
    let is = c.in_ok-expressed.ensures in
    let reader = c.in_ok-expressed.expressed.made.labels.inner in
    let inner = position_meaning reader.inner in
    let few = counting_of (form_of q.expr) inner AtMost most c.positions_accept.ensures.collapsed c.requires.usable reader.inner.lawful reader.fits is.positions in
    let walk = rw (c.new-plain.ensures.network, c.deref.ensures.value, c.deref-2.ensures.value, is.on_side, is.limited) at c.in_ok-best.ensures.walk in
    let arrival = rw (c.new-plain.ensures.network, c.deref.ensures.value, c.deref-2.ensures.value, is.on_side, is.limited) at c.in_ok-best.ensures.arrival in
    let limit : most + 1 ≡ c.args.limit = let some = c.if-limit-eq0.false in omega arith in
    let small : most ≤ 8 = let few = c.requires.limit in omega arith in
    IfOk-weaker c.unpacked.result _ _ (λ found is. subst (λ k. IsLeastBelow n (asked_by q) k found) limit (found_below n c.known.ensures c.new-plain.result.timetable.now (asked_by q) (counted (collapsed inner) AtMost most) most c.in_ok-starts.starts.items c.in_ok-targets.targets.items
    few c.new-plain.ensures.journeys c.in_ok-starts.ensures.are c.in_ok-targets.ensures.are small _ _ _ arrival walk c.requires.soon is)) (rw c.new-plain.ensures.network at c.unpacked.ensures)
