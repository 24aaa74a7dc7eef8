use Rattle.journey.specs.{asked_by}
use Rattle.latest_departure.proofs.LimitLemmas.{search_has_more, search_has_at_most}
use Rattle.latest_departure.proofs.departing.least_moment.Goals as goal

pub returns-in-Stopped-clause-stopped : goal.returns-in-Stopped-clause-stopped
returns-in-Stopped-clause-stopped c =
    let is = c.requires in
    let stopped = rw c.in-Stopped.is at c.in_ok-found-2.ensures.stopped in (
      stopped.0,
      search_has_more c.args.backwards.now c.known.ensures (asked_by c.args.query.now) c.args.search.now is c.in-Stopped.most
          (rw (is.backwards, is.by, is.back_to, c.deref.ensures.value, c.deref-2.ensures.value) at stopped.1),
    )

pub returns-clause-few : goal.returns-clause-few
returns-clause-few c =
    let is = c.requires in
    let arrival = rw c.in-Ended.is at c.in_ok-found-2.ensures.arrival in
    let labels = rw c.in-Ended.is at c.in_ok-found-2.ensures.labels in
    let few = rw c.in-Ended.is at c.in_ok-found-2.ensures.few in
    search_has_at_most c.args.backwards.now c.known.ensures (asked_by c.args.query.now) c.args.search.now is c.in-Ended.found.arrival c.in-Ended.found.labels
    (rw (is.backwards, is.by, is.back_to, c.deref.ensures.value, c.deref-2.ensures.value) at arrival)
    (rw (is.backwards, is.by, is.back_to, c.deref.ensures.value) at labels) c.args.limit few
