use Rattle.plan_base.proofs.Common.{ℕ, [], ◌∷◌, ◌++◌, sym, ap, ap₂, ◌∙◌, refl, Option, is_some, unwrap_or, list_any}
use Rattle.gtfs_tables.specs.{TripId, StopId, HasTrip, StopTime, call_between, calls, is_same_key, references, first_dangling, place_among}
use Rattle.gtfs_tables.proofs.{CallLemmas.found_key, CallLemmas.one_more_known, CallLemmas.unknown_key, ListLemmas.was_known, ListLemmas.was_new, TableLemmas.dangling, TableLemmas.joins, TableLemmas.repeated}
use Rattle.gtfs_tables.proofs.calls.CallsTakesRows.take.Goals as goal

pub returns-in_default-clause-row : goal.returns-in_default-clause-row
returns-in_default-clause-row c earlier kept =
    let trips = c.args.self.now.trips.now in
    let stops = c.args.self.now.stops.now in
    let time : StopTime = record { row = c.in_ok-line.line.row; trip = c.in_ok-line.line.trip.now; stop = c.in_ok-line.line.stop.now; visit = c.in_ok-line.line.visit } in
    let lost = sym c.place.ensures.value ∙ c.in_default.is in
    let dangles = ap (λ (trip : Option ℕ). first_dangling (references trip (place_among stops time.stop))) lost in
    dangling (calls c.args.self.now.caps trips stops) earlier c.args.row.now time c.in_ok-line.ensures (unknown_key trips time lost earlier kept.known) TripId dangles c.dangling_key.result c.dangling_key.ensures

pub returns-then-not-branch-clause-row : goal.returns-then-not-branch-clause-row
returns-then-not-branch-clause-row c earlier kept =
    let trips = c.args.self.now.trips.now in
    let stops = c.args.self.now.stops.now in
    let time : StopTime = record { row = c.in_ok-line.line.row; trip = c.in_ok-line.line.trip.now; stop = c.in_ok-line.line.stop.now; visit = c.in_ok-line.line.visit } in
    let known = found_key trips time c.in-Some.trip (sym c.in-Some.ensures.value) earlier kept.known ∙ ap (list_any (is_same_key (c.in-Some.trip, time.visit.sequence))) (sym kept.holds.keys_are) in
    repeated (calls c.args.self.now.caps trips stops) earlier c.args.row.now time c.in_ok-line.ensures (known ∙ was_known _ _ c.in_ok-note.ensures.new c.if-not-branch.true) c.repeated_key.result c.repeated_key.ensures

pub returns-in_default-place-clause-row : goal.returns-in_default-place-clause-row
returns-in_default-place-clause-row c earlier kept =
    let trips = c.args.self.now.trips.now in
    let stops = c.args.self.now.stops.now in
    let time : StopTime = record { row = c.in_ok-line.line.row; trip = c.in_ok-line.line.trip.now; stop = c.in_ok-line.line.stop.now; visit = c.in_ok-line.line.visit } in
    let trip = sym c.in-Some.ensures.value in
    let known = found_key trips time c.in-Some.trip trip earlier kept.known ∙ ap (list_any (is_same_key (c.in-Some.trip, time.visit.sequence))) (sym kept.holds.keys_are) in
    let new = known ∙ was_new _ _ c.in_ok-note.ensures.new c.if-not-branch.false in
    let dangles = ap₂ (λ (trip stop : Option ℕ). first_dangling (references trip stop)) trip (sym c.place-2.ensures.value ∙ c.in_default-place.is) in
    dangling (calls c.args.self.now.caps trips stops) earlier c.args.row.now time c.in_ok-line.ensures new StopId dangles c.dangling_key-in_default-place.result c.dangling_key-in_default-place.ensures

pub returns-clause-row : goal.returns-clause-row
returns-clause-row c earlier kept =
    let trips = c.args.self.now.trips.now in
    let stops = c.args.self.now.stops.now in
    let time : StopTime = record { row = c.in_ok-line.line.row; trip = c.in_ok-line.line.trip.now; stop = c.in_ok-line.line.stop.now; visit = c.in_ok-line.line.visit } in
    let trip = sym c.in-Some.ensures.value in
    let stop = sym c.in-Some-place.ensures.value in
    let known = found_key trips time c.in-Some.trip trip earlier kept.known ∙ ap (list_any (is_same_key (c.in-Some.trip, time.visit.sequence))) (sym kept.holds.keys_are) in
    let new = known ∙ was_new _ _ c.in_ok-note.ensures.new c.if-not-branch.false in
    let referred = ap₂ (λ (trip stop : Option ℕ). first_dangling (references trip stop)) trip stop in
    let gave = c.call_at-call.ensures ∙ ap₂ (call_between time) (sym trip) (sym stop) in
    let noted = c.in_ok-note.ensures.keys c.if-not-branch.false ∙ ap (λ (trip : Option ℕ). c.args.self.now.keys.keys ++ (unwrap_or trip 0, time.visit.sequence) ∷ []) (sym trip) in
    let known_all = one_more_known (HasTrip trips) earlier time kept.known (ap is_some trip) in
    joins _ _ _ _ earlier kept.holds c.args.row.now time c.in_ok-line.ensures new referred (λ _. refl) _ gave _ _ refl
    c.push_row.result c.push_row.new.rows.items c.push_row.ensures.rows c.push_row.ensures.few c.push_row.ensures.fault _ noted _ (λ _ holds. record { holds = holds; known = known_all })
