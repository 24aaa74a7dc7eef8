use Rattle.plan_base.proofs.Common.{arith}
use Rattle.journey.specs.{asked_by}
use Rattle.latest_departure.proofs.{LimitLemmas.search_has_more, SearchLemmas.over}
use Rattle.latest_departure.proofs.departing.late_over.Goals as goal

pub invariant_of-question-clause-starts_there : goal.invariant_of-question-clause-starts_there
invariant_of-question-clause-starts_there c = rw (c.requires.search.backwards, c.deref.ensures.value) c.requires.search.ends.start_nodes

pub returns-in-Stopped-clause-stopped : goal.returns-in-Stopped-clause-stopped
returns-in-Stopped-clause-stopped c =
    let is = c.requires.search in
    let stopped = rw c.in-Stopped.is at c.in_ok-found.ensures.stopped in (
      stopped.0,
      search_has_more c.args.backwards.now c.known.ensures (asked_by c.args.query.now) c.args.search.now is c.in-Stopped.most
          (rw (is.backwards, is.by, is.back_to, c.deref.ensures.value, c.deref-2.ensures.value) at stopped.1),
    )

pub returns-clause-labels : goal.returns-clause-labels
returns-clause-labels c =
    let is = c.requires.search in
    let arrival = rw c.in-Ended.is at c.in_ok-found.ensures.arrival in
    let labels = rw c.in-Ended.is at c.in_ok-found.ensures.labels in
    record {
      over = over c.args.backwards.now c.known.ensures (asked_by c.args.query.now) c.args.search.now is;
      arrival = c.in-Ended.found.arrival;
      first = rw (is.backwards, is.by, is.back_to, c.deref.ensures.value, c.deref-2.ensures.value) at arrival;
      least = rw (is.backwards, is.by, is.back_to, c.deref.ensures.value) at labels;
    }

pub returns-clause-times : goal.returns-clause-times
returns-clause-times c = λ k d lt.
    let times = rw c.in-Ended.is at c.in_ok-found.ensures.times in
    let soon = times.labels k d lt in
    omega arith
