use Rattle.plan_base.proofs.Common.{◌<◌, ◌^◌, ◌∙◌, sym, subst, length, arith, List, ℕ}
use Rattle.timetable_arcs.specs.{Instance, Ride, TripLists, rides_at, sorted_table}
use Rattle.timetable_arcs.proofs.{BuildLemmas.built, BuildLemmas.same_rides, BuildLemmas.boards_in, BuildLemmas.places_in, TableLemmas.patterns_few, TableLemmas.pattern_stops, TableLemmas.rides_few}
use Rattle.timetable_arcs.proofs.timetable.Timetable.build.Goals as goal

pub stop_boards-requires-clause-few : goal.stop_boards-requires-clause-few
stop_boards-requires-clause-few c =
    let table = built c.args.caps.now c.args.bases.items c.deref-3.result.now c.len.result c.args.stops c.args.trips.items c.deref.result.now c.deref-2.result.now c.deref-4.result.now c.in_ok-patterns.patterns.items
    c.requires (c.len.ensures ∙ c.args.bases.ok.0) c.deref.ensures.value c.deref-2.ensures.value c.deref-3.ensures.value c.deref-4.ensures.value (sym c.table_fault.ensures ∙ c.in_default.is)
    c.have_few_days.ensures c.in_ok-patterns.ensures.are c.in_ok-patterns.ensures.each_once in
    rw c.deref-8.ensures.value (let few = patterns_few _ table in omega (arith, few))

pub stop_boards-requires-clause-stops : goal.stop_boards-requires-clause-stops
stop_boards-requires-clause-stops c =
    let table = built c.args.caps.now c.args.bases.items c.deref-3.result.now c.len.result c.args.stops c.args.trips.items c.deref.result.now c.deref-2.result.now c.deref-4.result.now c.in_ok-patterns.patterns.items
    c.requires (c.len.ensures ∙ c.args.bases.ok.0) c.deref.ensures.value c.deref-2.ensures.value c.deref-3.ensures.value c.deref-4.ensures.value (sym c.table_fault.ensures ∙ c.in_default.is)
    c.have_few_days.ensures c.in_ok-patterns.ensures.are c.in_ok-patterns.ensures.each_once in
    rw (c.deref-7.ensures.value, c.deref-8.ensures.value) (pattern_stops _ table)

pub stop_boards-requires-clause-few_rides : goal.stop_boards-requires-clause-few_rides
stop_boards-requires-clause-few_rides c =
    let table = built c.args.caps.now c.args.bases.items c.deref-3.result.now c.len.result c.args.stops c.args.trips.items c.deref.result.now c.deref-2.result.now c.deref-4.result.now c.in_ok-patterns.patterns.items
    c.requires (c.len.ensures ∙ c.args.bases.ok.0) c.deref.ensures.value c.deref-2.ensures.value c.deref-3.ensures.value c.deref-4.ensures.value (sym c.table_fault.ensures ∙ c.in_default.is)
    c.have_few_days.ensures c.in_ok-patterns.ensures.are c.in_ok-patterns.ensures.each_once in
    subst (λ (trips : List TripLists). (stop : ℕ) → length (rides_at (sorted_table c.args.stops trips c.deref-8.result.now) stop) < 2 ^ 63) (sym c.deref-7.ensures.value)
    (subst (λ (patterns : List (List Instance)). (stop : ℕ) → length (rides_at (sorted_table c.args.stops c.args.trips.items patterns) stop) < 2 ^ 63) (sym c.deref-8.ensures.value)
    (λ stop. subst (λ (rides : List Ride). length rides < 2 ^ 63) (sym (same_rides c.args.bases.items c.args.stops c.args.trips.items c.in_ok-patterns.patterns.items stop)) (rides_few _ table stop)))

pub invariant_of-result : goal.invariant_of-result
invariant_of-result c =
    let table = built c.args.caps.now c.args.bases.items c.deref-3.result.now c.len.result c.args.stops c.args.trips.items c.deref.result.now c.deref-2.result.now c.deref-4.result.now c.in_ok-patterns.patterns.items
    c.requires (c.len.ensures ∙ c.args.bases.ok.0) c.deref.ensures.value c.deref-2.ensures.value c.deref-3.ensures.value c.deref-4.ensures.value (sym c.table_fault.ensures ∙ c.in_default.is)
    c.have_few_days.ensures c.in_ok-patterns.ensures.are c.in_ok-patterns.ensures.each_once in
    record {
      rules = table;
      places = places_in c.args.bases.items c.args.stops c.args.trips.items c.in_ok-patterns.patterns.items c.in_ok-places.places.items
          (rw (← c.deref-5.ensures.value, ← c.deref-6.ensures.value) c.in_ok-places.ensures);
      boards = boards_in c.args.bases.items c.args.stops c.args.trips.items c.in_ok-patterns.patterns.items c.in_ok-boards.boards.items
          (rw (← c.deref-7.ensures.value, ← c.deref-8.ensures.value) c.in_ok-boards.ensures);
    }
