use Rattle.plan_base.proofs.Common.{IfOk-weaker}
use Rattle.journey.specs.{asked_by}
use Rattle.latest_departure.proofs.SearchLemmas.{search_none, search_late}
use Rattle.latest_departure.proofs.departing.best_at.Goals as goal

pub returns-in-Some : goal.returns-in-Some
returns-in-Some c =
    IfOk-weaker c.first_from.result _ _ (search_late c.args.backwards.now c.known.ensures (asked_by c.args.query.now) c.args.search.now c.requires.search c.requires.usable c.in-Some.moment
    (rw c.in-Some.is at c.requires.moment)) (rw c.network.ensures at c.first_from.ensures)

pub returns-in-None : goal.returns-in-None
returns-in-None c =
    search_none c.args.backwards.now c.known.ensures (asked_by c.args.query.now) c.args.search.now c.requires.search c.requires.usable (rw c.in-None.is at c.requires.moment)
