use Rattle.plan_base.proofs.Common.{◌≡◌, ◌+◌, List, Option, length, sym, subst, arith, with_items_is}
use Rattle.timetable_arcs.specs.{Call, Instance, IsNextRun}
use Rattle.timetable_arcs.proofs.{TableLemmas.trip_of_pattern, TableLemmas.departs_small, TripLemmas.trip_well}
use Rattle.plain_graph.proofs.RunLemmas.{is_there}
use Rattle.departures.specs.{declared.fastest.Stretch.Stretch, inside.AreShortened, inside.FitBetweenCalls}
use Rattle.departures.proofs.FastestLemmas.{AreShort, shorter}
use Rattle.departures.proofs.fastest.stretches_of.Goals as goal

pub next-requires-clause-call : goal.next-requires-clause-call
next-requires-clause-call c = let two = (trip_well _ _ _ (trip_of_pattern c.args.timetable.now c.known.ensures c.args.pattern c.requires)).two_calls in omega arith

pub at-departure-requires-clause-trip : goal.at-departure-requires-clause-trip
at-departure-requires-clause-trip c =
    let t = c.args.timetable.now in
    let two = (trip_well _ _ _ (trip_of_pattern t c.known.ensures c.args.pattern c.requires)).two_calls in
    let first = subst (λ (found : Option Instance). IsNextRun t c.args.pattern 0 c.loop-run.time found) c.in-Some.is c.next.ensures.first in
    (is_there t c.known.ensures (record { pattern = c.args.pattern; board = 0; alight = 1 }) c.in-Some.run' first.is_in (omega arith)).trip

pub at-departure-requires-clause-day : goal.at-departure-requires-clause-day
at-departure-requires-clause-day c =
    let t = c.args.timetable.now in
    let two = (trip_well _ _ _ (trip_of_pattern t c.known.ensures c.args.pattern c.requires)).two_calls in
    let first = subst (λ (found : Option Instance). IsNextRun t c.args.pattern 0 c.loop-run.time found) c.in-Some.is c.next.ensures.first in
    (is_there t c.known.ensures (record { pattern = c.args.pattern; board = 0; alight = 1 }) c.in-Some.run' first.is_in (omega arith)).day

pub at-departure-requires-clause-call : goal.at-departure-requires-clause-call
at-departure-requires-clause-call c =
    let t = c.args.timetable.now in
    let two = (trip_well _ _ _ (trip_of_pattern t c.known.ensures c.args.pattern c.requires)).two_calls in
    let first = subst (λ (found : Option Instance). IsNextRun t c.args.pattern 0 c.loop-run.time found) c.in-Some.is c.next.ensures.first in
    let there = (is_there t c.known.ensures (record { pattern = c.args.pattern; board = 0; alight = 1 }) c.in-Some.run' first.is_in (omega arith)).call in
    omega arith

pub overflow_add-time : goal.overflow_add-time
overflow_add-time c =
    let t = c.args.timetable.now in
    let two = (trip_well _ _ _ (trip_of_pattern t c.known.ensures c.args.pattern c.requires)).two_calls in
    let first = subst (λ (found : Option Instance). IsNextRun t c.args.pattern 0 c.loop-run.time found) c.in-Some.is c.next.ensures.first in
    let there = (is_there t c.known.ensures (record { pattern = c.args.pattern; board = 0; alight = 1 }) c.in-Some.run' first.is_in (omega arith)).call in
    let small = departs_small t c.known.ensures c.args.pattern 0 c.in-Some.run' first.is_in (omega arith) in
    omega (arith, c.at-departure.ensures.departure, small)

pub loop-run-smaller : goal.loop-run-smaller
loop-run-smaller c =
    let t = c.args.timetable.now in
    let two = (trip_well _ _ _ (trip_of_pattern t c.known.ensures c.args.pattern c.requires)).two_calls in
    let first = subst (λ (found : Option Instance). IsNextRun t c.args.pattern 0 c.loop-run.time found) c.in-Some.is c.next.ensures.first in
    let there = (is_there t c.known.ensures (record { pattern = c.args.pattern; board = 0; alight = 1 }) c.in-Some.run' first.is_in (omega arith)).call in
    let small = departs_small t c.known.ensures c.args.pattern 0 c.in-Some.run' first.is_in (omega arith) in
    let in_time = first.in_time in
    omega (arith, c.at-departure.ensures.departure, small, in_time)

pub loop-run-preserved : goal.loop-run-preserved
loop-run-preserved c =
    let t = c.args.timetable.now in
    let p = c.args.pattern in
    let old = c.loop-run.stretches in
    let new = c.shorten.new.stretches in
    let run = c.in-Some.run' in
    let first = subst (λ (found : Option Instance). IsNextRun t p 0 c.loop-run.time found) c.in-Some.is c.next.ensures.first in
    let less = subst (λ (xs : List Stretch). AreShortened xs new) c.deref_mut.ensures.value c.shorten.ensures.shorter in
    let own = subst (λ (calls : List Call). FitBetweenCalls calls new) c.run_calls.ensures c.shorten.ensures.within in
    let more = shorter t c.known.ensures p c.loop-run.time old.items new run c.loop-run.invariant first less own in
    let len : length new ≡ old.len = omega (arith, c.shorten.auto.stretches, c.deref_mut.ensures.len) in
    subst (λ (xs : List Stretch). AreShort t p (c.at-departure.result.1 + 1) xs) (sym (with_items_is old new len))
    (subst (λ d. AreShort t p (d + 1) new) (sym c.at-departure.ensures.departure) more)
