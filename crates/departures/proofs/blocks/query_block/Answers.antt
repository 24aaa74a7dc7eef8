use Rattle.plan_base.proofs.Common.{◌∙◌, ap, subst, arith, IfOk-weaker}
use Rattle.service_days.specs.{AreDays, AreRisingDays}
use Rattle.mode_network.specs.NetworkLists.{NetworkLists}
use Rattle.mode_expression.specs.{form_of}
use Rattle.journey.specs.{asked_by}
use Rattle.kept_automata.proofs.TextLemmas.{query_spells}
use Rattle.latest_departure.proofs.DeadlineLemmas.{deadline_is_small}
use Rattle.departures.proofs.TextLemmas.{right_block}
use Rattle.departures.proofs.blocks.query_block.Goals as goal

pub new-requires-clause-spelled : goal.new-requires-clause-spelled
new-requires-clause-spelled c = query_spells c.args.least.now.plain.network.now _ _ _ _ _ c.requires.asks

pub without_ride-requires-clause-soon : goal.without_ride-requires-clause-soon
without_ride-requires-clause-soon c =
    let n = c.args.least.now.plain.network.now in
    let q = c.args.query.now in
    let same = c.days.ensures ∙ ap (λ (n : NetworkLists). n.days) c.network-network.ensures in
    let small = deadline_is_small n (subst AreDays same c.known.ensures.days) (subst AreRisingDays same c.known.ensures.order) c.args.query.now.line q.from q.to q.depart (form_of q.expr) c.requires.asks in
    omega arith

pub departures_worth-requires-clause-soon : goal.departures_worth-requires-clause-soon
departures_worth-requires-clause-soon c =
    let n = c.args.least.now.plain.network.now in
    let q = c.args.query.now in
    let same = c.days.ensures ∙ ap (λ (n : NetworkLists). n.days) c.network-network.ensures in
    let small = deadline_is_small n (subst AreDays same c.known.ensures.days) (subst AreRisingDays same c.known.ensures.order) c.args.query.now.line q.from q.to q.depart (form_of q.expr) c.requires.asks in
    rw c.in_ok-search.ensures.query (omega arith)

pub returns : goal.returns
returns c =
    let n = c.args.least.now.plain.network.now in
    let q = asked_by c.args.query.now in
    let without = rw c.network-network.ensures at c.in_ok-without.ensures in
    let are = rw (c.in_ok-search.ensures.network, c.in_ok-search.ensures.query, c.network-network.ensures) at c.in_ok-rows.ensures.rows in
    IfOk-weaker c.rows_block.result _ _
    (λ block told. right_block n c.args.query.now.line q c.args.window c.requires.asks c.in_ok-without.without c.in_ok-rows.rows.items block.items without are told)
    (rw (c.network-network.ensures, c.as_slice.ensures, c.deref.ensures.value) at c.rows_block.ensures)
