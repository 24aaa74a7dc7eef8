use Rattle.plan_base.proofs.Common.{◌+◌, ◌≤◌, ◌<◌, List, Option, sym, subst, arith}
use Rattle.journey.specs.{asked_by}
use Rattle.departures.specs.{Row, inside.next_moment, inside.IsFirstRowFrom}
use Rattle.departures.proofs.ListingLemmas.{IsListing, starts, ends, closes, goes_on}
use Rattle.departures.proofs.listing.departures.Goals as goal

pub loop-best-init : goal.loop-best-init
loop-best-init c =
    let s = c.args.search.now in
    let n = s.plain.network.now in
    let q = asked_by s.query.now in
    subst (λ (rows : List Row). IsListing n q c.args.without c.args.window rows c.in_ok-best.best) (sym c.new-rows.ensures.items)
    (starts n q c.args.without c.args.window c.in_ok-best.best c.in_ok-best.ensures)

pub loop-best-preserved : goal.loop-best-preserved
loop-best-preserved c =
    let s = c.args.search.now in
    let n = s.plain.network.now in
    let q = asked_by s.query.now in
    let so_far = subst (λ (best : Option Row). IsListing n q c.args.without c.args.window c.loop-best.rows.items best) c.in-Some.is c.loop-best.invariant in
    let next = subst (λ t. IsFirstRowFrom n q t c.in_ok-next.next) c.next_moment-from.ensures c.in_ok-next.ensures in
    let in_window : next_moment c.args.without c.in-Some.row.pair ≤ q.depart + c.args.window = omega (arith, c.if-from-closes.false, c.next_moment-from.ensures, c.from.ensures) in
    subst (λ (rows : List Row). IsListing n q c.args.without c.args.window rows c.in_ok-next.next) (sym c.in_ok-keep.ensures)
    (goes_on n q c.args.without c.args.window c.loop-best.rows.items c.in-Some.row so_far in_window c.in_ok-next.next next)

pub returns-then-from-closes-clause-rows : goal.returns-then-from-closes-clause-rows
returns-then-from-closes-clause-rows c =
    let s = c.args.search.now in
    let n = s.plain.network.now in
    let q = asked_by s.query.now in
    let so_far = subst (λ (best : Option Row). IsListing n q c.args.without c.args.window c.loop-best.rows.items best) c.in-Some.is c.loop-best.invariant in
    let past : q.depart + c.args.window < next_moment c.args.without c.in-Some.row.pair = omega (arith, c.if-from-closes.true, c.next_moment-from.ensures, c.from.ensures) in
    closes n q c.args.without c.args.window c.loop-best.rows.items c.in-Some.row so_far past

pub returns-clause-rows : goal.returns-clause-rows
returns-clause-rows c =
    let s = c.args.search.now in
    let n = s.plain.network.now in
    let q = asked_by s.query.now in
    ends n q c.args.without c.args.window c.loop-best.rows.items
    (subst (λ (best : Option Row). IsListing n q c.args.without c.args.window c.loop-best.rows.items best) c.in_default.is c.loop-best.invariant)
