use Rattle.plan_base.proofs.Common.{◌≡◌, ◌-◌, ◌∙◌, ap, subst, arith}
use Rattle.service_days.specs.{DaysMeaning.DaysMeaning, AreDays, AreRisingDays, base_of}
use Rattle.automaton.specs.{position_meaning}
use Rattle.mode_expression.specs.{form_of}
use Rattle.kept_automata.proofs.TextLemmas.{query_spells}
use Rattle.latest_departure.specs.{first_moment}
use Rattle.latest_departure.proofs.DeadlineLemmas.{deadline_is_late, deadline_is_small}
use Rattle.latest_departure.proofs.search.LateSearch.new.Goals as goal

pub overflow_sub-span : goal.overflow_sub-span
overflow_sub-span c =
    let n = c.args.backwards.now.network in
    let q = c.args.query.now in
    let is_days = rw c.network-network.ensures at c.days-days.ensures in
    let days = subst AreDays is_days c.known.ensures.days in
    let order = subst AreRisingDays is_days c.known.ensures.order in
    let late = deadline_is_late n days order q.line q.from q.to q.depart (form_of q.expr) c.requires.asks in
    let base = c.from.ensures ∙ c.base.ensures ∙ ap (λ (d : DaysMeaning). base_of d 7) is_days in
    omega arith

pub of-mirror-requires : goal.of-mirror-requires
of-mirror-requires c =
    let n = c.args.backwards.now.network in
    let q = c.args.query.now in
    let is_days = rw c.network-network.ensures at c.days-days.ensures in
    let days = subst AreDays is_days c.known.ensures.days in
    let order = subst AreRisingDays is_days c.known.ensures.order in
    let small = deadline_is_small n days order q.line q.from q.to q.depart (form_of q.expr) c.requires.asks in
    omega arith

pub take-requires-clause-spelled : goal.take-requires-clause-spelled
take-requires-clause-spelled c = query_spells c.args.backwards.now.network _ _ _ _ _ c.requires.asks

pub returns : goal.returns
returns c =
    let n = c.args.backwards.now.network in
    let q = c.args.query.now in
    let is_days = rw c.network-network.ensures at c.days-days.ensures in
    let days = subst AreDays is_days c.known.ensures.days in
    let order = subst AreRisingDays is_days c.known.ensures.order in
    let small = deadline_is_small n days order q.line q.from q.to q.depart (form_of q.expr) c.requires.asks in
    let base : c.from.result ≡ first_moment n = c.from.ensures ∙ c.base.ensures ∙ ap (λ (d : DaysMeaning). base_of d 7) is_days in
    let made = c.in_ok-expressed.expressed.made in
    let turned = c.in_ok-expressed.ensures in
    record {
      backwards = c.of-mirror.ensures.backwards;
      by = c.of-mirror.ensures.deadline;
      small = omega arith;
      not_before = deadline_is_late n days order q.line q.from q.to q.depart (form_of q.expr) c.requires.asks;
      back_to = ap (λ t. q.depart - t) base;
      reads = record {
        automaton = position_meaning made.positions;
        positions = turned.positions;
        lawful = made.positions.lawful;
        turned = turned.turned;
        turned_lawful = made.machine.labels.inner.lawful;
        fits = made.machine.labels.fits;
      };
      ends = record {
        destination = rw c.network-network.ensures at c.in_ok-starts.ensures.are;
        origin = rw c.network-network.ensures at c.in_ok-targets.ensures.are;
        start_nodes = rw c.network-network.ensures at c.in_ok-starts.ensures.nodes;
        target_nodes = rw c.network-network.ensures at c.in_ok-targets.ensures.nodes;
      };
    }
