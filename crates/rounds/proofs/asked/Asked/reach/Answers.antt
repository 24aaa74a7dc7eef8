use Rattle.plan_base.proofs.Common.{◌≡◌, ◌<◌, ◌∙◌, ℕ, List, Vec, Global, length, sym, subst}
use Rattle.product_search.specs.{Label}
use Rattle.rounds.specs.inside.{asked_of, cell, never, Turn, AreWalkedBelow}
use Rattle.rounds.proofs.{VisitLemmas.IsAny, RideLemmas.riding_begins, RideLemmas.riding_stays}
use Rattle.rounds.proofs.ReachLemmas.{visiting_kept, visiting_begins, round_more, settled, where_room}
use Rattle.rounds.proofs.asked.Asked.reach.Goals as goal

pub loop-init : goal.loop-init
loop-init g c =
    let a = asked_of {l = g.L.Labels} c.args.self.now in
    let begun = c.in_ok-reached.ensures in
    let rows = c.in-Some.reached.crossings.items in
    record {
      walks_reached = rw c.in-Some.is at begun.walks;
      walks_closed = rw c.in-Some.is at begun.closed;
      visiting = visiting_begins a rows c.in_ok-visits.visits.items (rw c.in-Some.is at begun.crossings) (rw c.in-Some.is at begun.few) c.in_ok-visits.ensures.shape c.in_ok-visits.ensures.none;
      riding = riding_begins a c.requires.is rows c.in_ok-rides.rides.items (rw c.in-Some.is at begun.crossings) c.in_ok-rides.ensures.shape c.in_ok-rides.ensures.none;
      crossed = rw c.in-Some.is at begun.crossed;
      walked = rw c.in-Some.is at begun.walked;
    }

pub visit_all-requires-clause-visited : goal.visit_all-requires-clause-visited
visit_all-requires-clause-visited g c =
    let a = asked_of {l = g.L.Labels} c.args.self.now in
    let kept = visiting_kept a c.loop.reached.crossings.items c.walk_all-walked.new.reached.crossings.items c.loop.visits.items c.walk_all-walked.ensures.lowered c.walk_all-walked.ensures.crossings c.loop.invariant.visiting in
    kept.visited

pub ride_all-requires-clause-riding : goal.ride_all-requires-clause-riding
ride_all-requires-clause-riding g c =
    let a = asked_of {l = g.L.Labels} c.args.self.now in
    let mid = c.walk_all-walked.new.reached.crossings.items in
    let next = c.visit_all.new.rows.items in
    let rides = c.loop.rides.items in
    let done = c.in_ok-crossed.ensures in
    riding_stays a IsAny mid next (rw c.in-Some-2.is at done.lowered) rides (rw c.in-Some-2.is at done.crossings)
    (riding_stays a IsAny c.loop.reached.crossings.items mid c.walk_all-walked.ensures.lowered rides c.walk_all-walked.ensures.crossings c.loop.invariant.riding)

pub returns-then-not-ridden : goal.returns-then-not-ridden
returns-then-not-ridden g c =
    let a = asked_of {l = g.L.Labels} c.args.self.now in
    let firsts : List Label = c.args.firsts.now in
    let turns : List Turn = c.args.turns.now in
    let walks : List (Vec ℕ Global) = c.walk_all-walked.new.reached.walks.items in
    let mid : List (Vec ℕ Global) = c.walk_all-walked.new.reached.crossings.items in
    let next : List (Vec ℕ Global) = c.visit_all.new.rows.items in
    let rows : List (Vec ℕ Global) = c.ride_all.new.rows.items in
    let visits : List (Vec ℕ Global) = c.visit_all.new.visits.items in
    let walked = c.walk_all-walked.ensures in
    let visited = c.in_ok-crossed.ensures in
    let ridden = rw c.in-Some-3.is at c.in_ok-ridden.ensures in
    let way = round_more a firsts turns c.loop.reached.walks.items walks c.loop.reached.crossings.items mid next rows visits c.ride_all.new.rides.items
    c.loop.invariant.crossed c.loop.invariant.walked walked.walks_lowered walked.walks walked.closed walked.lowered (rw c.in-Some-2.is at visited.lowered)
    (record { reached = rw c.in-Some-2.is at visited.crossings; shape = rw c.in-Some-2.is at visited.shape; visited = rw c.in-Some-2.is at visited.visited }) ridden.taken.lowered ridden.riding in
    let last : rows ≡ next = ridden.taken.same c.if-not-ridden.true in
    let same : rows ≡ mid = last ∙ (rw c.in-Some-2.is at visited.same) c.if-not-crossed.true in
    let closed = subst (λ xs. AreWalkedBelow a turns walks xs (length turns)) (sym same) (walked.walked c.if-not-walked.true) in
    let now = subst (λ xs. (q j : ℕ) → q < a.labels.states → j < length a.rounds.crossings.items → cell xs q j < never → cell visits q j ≡ cell xs q j) (sym last) ((rw c.in-Some-2.is at visited.all) c.if-not-crossed.true) in
    where_room a firsts turns c.with_room.result _ (λ room. settled a firsts turns walks rows visits c.ride_all.new.rides.items way closed now (ridden.all c.if-not-ridden.true) room) c.with_room.ensures

pub loop-preserved : goal.loop-preserved
loop-preserved g c =
    let a = asked_of {l = g.L.Labels} c.args.self.now in
    let walked = c.walk_all-walked.ensures in
    let visited = c.in_ok-crossed.ensures in
    let ridden = rw c.in-Some-3.is at c.in_ok-ridden.ensures in
    round_more a c.args.firsts.now c.args.turns.now c.loop.reached.walks.items c.walk_all-walked.new.reached.walks.items c.loop.reached.crossings.items c.walk_all-walked.new.reached.crossings.items c.visit_all.new.rows.items
    c.ride_all.new.rows.items c.visit_all.new.visits.items c.ride_all.new.rides.items
    c.loop.invariant.crossed c.loop.invariant.walked walked.walks_lowered walked.walks walked.closed walked.lowered (rw c.in-Some-2.is at visited.lowered)
    (record { reached = rw c.in-Some-2.is at visited.crossings; shape = rw c.in-Some-2.is at visited.shape; visited = rw c.in-Some-2.is at visited.visited }) ridden.taken.lowered ridden.riding
