use Rattle.plan_base.proofs.Common.{Option, List, sym, subst}
use Rattle.journey.specs.{asked_by}
use Rattle.few_boardings.specs.{FewRow, Found, AreRowsSoFar}
use Rattle.few_boardings.proofs.RoundLemmas.{starts, goes_on_by, are_rows, none_or_some}
use Rattle.few_boardings.proofs.boardings.few.Goals as goal

pub loop-best-init : goal.loop-best-init
loop-best-init c =
    subst (λ (rows : List FewRow). AreRowsSoFar c.args.network.now (asked_by c.args.query.now) rows c.in_ok-best.best) (sym c.new-rows.ensures.items)
    (starts c.args.network.now (asked_by c.args.query.now) c.in_ok-best.best c.in_ok-best.ensures)

pub loop-best-preserved : goal.loop-best-preserved
loop-best-preserved c =
    goes_on_by c.args.network.now (asked_by c.args.query.now) c.loop-best.best c.in_ok-fewer.fewer c.in-Some.found c.loop-best.rows.items c.keep.new.rows.items
    c.loop-best.invariant c.in-Some.is c.in_ok-fewer.ensures c.in_ok-keep.ensures

pub returns-clause-rows : goal.returns-clause-rows
returns-clause-rows c =
    let n = c.args.network.now in
    let q = asked_by c.args.query.now in
    are_rows n q c.loop-best.rows.items (subst (λ (best : Option Found). AreRowsSoFar n q c.loop-best.rows.items best) c.in_default.is c.loop-best.invariant)

pub returns-clause-none : goal.returns-clause-none
returns-clause-none c =
    let n = c.args.network.now in
    let q = asked_by c.args.query.now in
    none_or_some n q c.loop-best.rows.items (subst (λ (best : Option Found). AreRowsSoFar n q c.loop-best.rows.items best) c.in_default.is c.loop-best.invariant)
