use Rattle.journey.specs.{asked_by}
use Rattle.departures.proofs.LeastLemmas.{none_worth}
use Rattle.departures.proofs.listing.departures_worth.Goals as goal

pub returns-then-not-branch-clause-rows : goal.returns-then-not-branch-clause-rows
returns-then-not-branch-clause-rows c =
    let s = c.args.search.now in
    rw (c.in-Some.is, c.new.ensures.items)
    (none_worth s.plain.network.now (asked_by s.query.now) c.in-Some.c c.args.window (c.in_ok-may_take_less.ensures c.if-not-branch.true))
