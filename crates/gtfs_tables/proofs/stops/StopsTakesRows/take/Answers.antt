use Rattle.plan_base.proofs.Common.{ℕ, List, ◌++◌, map, sym, ap, ap₂, ◌∙◌, refl, Option, bytes_eq, option_to_list, list_any, map-append}
use Rattle.gtfs_tables.specs.{StopRow, Location, stops, stop_of}
use Rattle.gtfs_tables.proofs.{ListLemmas.was_new, ListLemmas.was_known, StopLemmas.has_id_of, StopLemmas.listed_id, TableLemmas.joins, TableLemmas.known_key, TableLemmas.no_record, TableLemmas.repeated}
use Rattle.gtfs_tables.proofs.stops.StopsTakesRows.take.Goals as goal

pub returns-then-not-branch-clause-row : goal.returns-then-not-branch-clause-row
returns-then-not-branch-clause-row c earlier kept =
    let location : Location = record { row = c.in_ok-line.line.row; id = c.in_ok-line.line.id.now; place = c.in_ok-line.line.place } in
    let known = known_key _ _ _ _ earlier kept.holds bytes_eq location.id ∙ was_known _ _ c.in_ok-insert.ensures.new c.if-not-branch.true in
    repeated (stops c.args.self.now.caps) earlier c.args.row.now location c.in_ok-line.ensures known c.repeated_key.result c.repeated_key.ensures

pub returns-clause-row : goal.returns-clause-row
returns-clause-row c earlier kept =
    let location : Location = record { row = c.in_ok-line.line.row; id = c.in_ok-line.line.id.now; place = c.in_ok-line.line.place } in
    let unseen = was_new _ _ c.in_ok-insert.ensures.new c.if-not-branch.false in
    let new = known_key _ _ _ _ earlier kept.holds bytes_eq location.id ∙ unseen in
    let unlisted = ap (list_any (bytes_eq location.id)) (kept.listed ∙ ap (map (λ stop. stop.id)) kept.holds.rows_are)
    ∙ no_record stop_of (λ location. location.id) (λ stop. stop.id) has_id_of (bytes_eq location.id) earlier (ap (list_any (bytes_eq location.id)) (sym kept.holds.keys_are) ∙ unseen) in
    joins _ _ _ _ earlier kept.holds c.args.row.now location c.in_ok-line.ensures new refl (λ _. refl) _ c.in_ok-stop.ensures _ _ refl
    c.push_row.result c.push_row.new.rows.items c.push_row.ensures.rows c.push_row.ensures.few c.push_row.ensures.fault _ (c.in_ok-insert.ensures.ids c.if-not-branch.false) _ (λ pushed holds. record {
      holds = holds;
      listed = c.in_ok-note.ensures unlisted ∙ ap₂ (λ (ids more : List (List ℕ)). ids ++ more) kept.listed (listed_id location ∙ ap (λ (stop : Option StopRow). map (λ (stop : StopRow). stop.id) (option_to_list stop)) (sym c.in_ok-stop.ensures))
          ∙ sym (map-append (λ (stop : StopRow). stop.id) c.args.self.now.rows.items (option_to_list c.in_ok-stop.stop)) ∙ ap (map (λ (stop : StopRow). stop.id)) (sym pushed);
    })
