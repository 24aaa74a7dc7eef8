use Rattle.plan_base.proofs.Common.{sym, subst, IfOk-weaker}
use Rattle.journey.specs.{asked_by, IsLargeIfAny}
use Rattle.journey.proofs.LargeLemmas.{is_large, is_small, unread_small}
use Rattle.journey.proofs.large.large_places.Goals as goal

pub returns-in-Err : goal.returns-in-Err
returns-in-Err c =
    let n = c.args.network.now in
    let line = c.args.line.now in
    IfOk-weaker c.none_where_refused.result _ _
    (λ count is. subst (IsLargeIfAny n c.args.most line) (sym is.0) (unread_small n line c.args.most c.in-Err.fault c.in-Err.ensures.fault is.1))
    c.none_where_refused.ensures

pub returns-then-places-from : goal.returns-then-places-from
returns-then-places-from c =
    let more = c.if-places-from.true in
    is_large c.args.network.now c.args.line.now (asked_by c.in-Ok.query) c.in-Ok.ensures.query c.in-Ok.ensures.usable c.places-places.result c.places-places.ensures
    c.args.most c.in-Some.most c.in-Some.is (rw c.from.ensures at more)

pub returns : goal.returns
returns c =
    let few = c.if-places-from.false in
    is_small c.args.network.now c.args.line.now (asked_by c.in-Ok.query) c.in-Ok.ensures.query c.in-Ok.ensures.usable c.places-places.result c.places-places.ensures
    c.args.most c.in-Some.most c.in-Some.is (rw c.from.ensures at few)
