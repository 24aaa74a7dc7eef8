use Rattle.plan_base.proofs.Common.{ℕ, List, [], ◌∷◌, ◌++◌, map, sym, ap, ◌∙◌, refl, Option, Some, bytes_eq, is_some, option_map, map-append}
use Rattle.gtfs_tables.specs.{TripRow, RouteId, first_dangling, TripLine, trips, trip_over}
use Rattle.gtfs_tables.proofs.{ListLemmas.was_new, ListLemmas.was_known, TableLemmas.dangling, TableLemmas.joins, TableLemmas.known_key, TableLemmas.repeated}
use Rattle.gtfs_tables.proofs.trips.TripsTakesRows.take.Goals as goal

pub returns-then-not-branch-clause-row : goal.returns-then-not-branch-clause-row
returns-then-not-branch-clause-row c earlier kept =
    let line : TripLine = record { row = c.in_ok-line.line.row; id = c.in_ok-line.line.id.now; route = c.in_ok-line.line.route.now; service = c.in_ok-line.line.service.now } in
    let known = known_key _ _ _ _ earlier kept.holds bytes_eq line.id ∙ was_known _ _ c.in_ok-insert.ensures.new c.if-not-branch.true in
    repeated (trips c.args.self.now.caps c.args.self.now.routes.now) earlier c.args.row.now line c.in_ok-line.ensures known c.repeated_key.result c.repeated_key.ensures

pub returns-in_default-clause-row : goal.returns-in_default-clause-row
returns-in_default-clause-row c earlier kept =
    let line : TripLine = record { row = c.in_ok-line.line.row; id = c.in_ok-line.line.id.now; route = c.in_ok-line.line.route.now; service = c.in_ok-line.line.service.now } in
    let new = known_key _ _ _ _ earlier kept.holds bytes_eq line.id ∙ was_new _ _ c.in_ok-insert.ensures.new c.if-not-branch.false in
    let lost = ap (λ (place : Option ℕ). first_dangling ((RouteId, is_some place) ∷ [])) (sym c.place.ensures.value ∙ c.in_default.is) in
    dangling (trips c.args.self.now.caps c.args.self.now.routes.now) earlier c.args.row.now line c.in_ok-line.ensures new RouteId lost c.dangling_key.result c.dangling_key.ensures

pub returns-clause-row : goal.returns-clause-row
returns-clause-row c earlier kept =
    let line : TripLine = record { row = c.in_ok-line.line.row; id = c.in_ok-line.line.id.now; route = c.in_ok-line.line.route.now; service = c.in_ok-line.line.service.now } in
    let new = known_key _ _ _ _ earlier kept.holds bytes_eq line.id ∙ was_new _ _ c.in_ok-insert.ensures.new c.if-not-branch.false in
    let known = ap (λ (place : Option ℕ). first_dangling ((RouteId, is_some place) ∷ [])) (sym c.in-Some.ensures.value) in
    let gave = ap Some c.in_ok-trip.ensures ∙ ap (option_map (trip_over line)) c.in-Some.ensures.value in
    let noted = c.in_ok-insert.ensures.ids c.if-not-branch.false in
    joins _ _ _ _ earlier kept.holds c.args.row.now line c.in_ok-line.ensures new known (λ _. refl) _ gave _ _ refl
    c.push_row.result c.push_row.new.rows.items c.push_row.ensures.rows c.push_row.ensures.few c.push_row.ensures.fault _ noted _ (λ pushed holds. record {
      holds = holds;
      listed = noted ∙ ap (λ (ids : List (List ℕ)). ids ++ line.id ∷ []) kept.listed
          ∙ ap (λ (id : List ℕ). map (λ (trip : TripRow). trip.id) c.args.self.now.rows.items ++ id ∷ []) (sym (ap (λ (trip : TripRow). trip.id) c.in_ok-trip.ensures))
          ∙ sym (map-append (λ (trip : TripRow). trip.id) c.args.self.now.rows.items (c.in_ok-trip.trip ∷ [])) ∙ ap (map (λ (trip : TripRow). trip.id)) (sym pushed);
    })
