use Rattle.plan_base.proofs.Common.{Option, subst}
use Rattle.journey.specs.{asked_by}
use Rattle.few_boardings.specs.{Found, IsLeastBelow}
use Rattle.departures.proofs.MovedLemmas.{without_found, without_none}
use Rattle.departures.proofs.listing.without_ride.Goals as goal

pub overflow_sub-result : goal.overflow_sub-result
overflow_sub-result c =
    let q = asked_by c.args.query.now in
    let least = subst (λ (o : Option Found). IsLeastBelow c.args.network.now q 1 o) c.in-Some.is c.in_ok-found.ensures in
    (without_found c.args.network.now q c.in-Some.found least).1

pub returns-in-Some : goal.returns-in-Some
returns-in-Some c =
    let q = asked_by c.args.query.now in
    let least = subst (λ (o : Option Found). IsLeastBelow c.args.network.now q 1 o) c.in-Some.is c.in_ok-found.ensures in
    (without_found c.args.network.now q c.in-Some.found least).0

pub returns-in-None : goal.returns-in-None
returns-in-None c =
    let q = asked_by c.args.query.now in
    without_none c.args.network.now q (subst (λ (o : Option Found). IsLeastBelow c.args.network.now q 1 o) c.in-None.is c.in_ok-found.ensures)
