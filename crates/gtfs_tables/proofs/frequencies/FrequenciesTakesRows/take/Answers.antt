use Rattle.plan_base.proofs.Common.{◌≡◌, ℕ, [], ◌∷◌, ◌++◌, sym, ap, ◌∙◌, refl, Option, Some, is_some, option_map, option_to_list}
use Rattle.gtfs_tables.specs.{TripId, FrequencyRow, Frequency, frequencies, frequency_of, frequency_over, first_dangling}
use Rattle.gtfs_tables.proofs.{FrequencyLemmas.without_key, TableLemmas.dangling, TableLemmas.faultless_row, TableLemmas.one_more, TableLemmas.without_zones}
use Rattle.gtfs_tables.proofs.frequencies.FrequenciesTakesRows.take.Goals as goal

pub returns-in_default-clause-row : goal.returns-in_default-clause-row
returns-in_default-clause-row c earlier kept =
    let frequency : Frequency = record { row = c.in_ok-line.line.row; trip = c.in_ok-line.line.trip.now; span = c.in_ok-line.line.span } in
    let lost = ap (λ (place : Option ℕ). first_dangling ((TripId, is_some place) ∷ [])) (sym c.place.ensures.value ∙ c.in_default.is) in
    dangling (frequencies c.args.self.now.trips.now) earlier c.args.row.now frequency c.in_ok-line.ensures (without_key earlier) TripId lost c.dangling_key.result c.dangling_key.ensures

pub returns-clause-row : goal.returns-clause-row
returns-clause-row c earlier kept =
    let table = frequencies c.args.self.now.trips.now in
    let frequency : Frequency = record { row = c.in_ok-line.line.row; trip = c.in_ok-line.line.trip.now; span = c.in_ok-line.line.span } in
    let known = ap (λ (place : Option ℕ). first_dangling ((TripId, is_some place) ∷ [])) (sym c.in-Some.ensures.value) in
    let gave : Some c.to_row.result ≡ frequency_of c.args.self.now.trips.now frequency = ap Some c.to_row.ensures ∙ ap (option_map (frequency_over frequency)) c.in-Some.ensures.value in
    let pushed : c.put.new.rows.items ≡ c.args.self.now.rows.items ++ option_to_list (frequency_of c.args.self.now.trips.now frequency) = c.in_ok-put.ensures ∙ ap (λ (last : Option FrequencyRow). c.args.self.now.rows.items ++ option_to_list last) gave in
    record {
      said = frequency;
      is = faultless_row table earlier c.args.row.now frequency c.in_ok-line.ensures (without_key earlier) known (without_zones table earlier frequency (λ _. refl)) tt;
      kept = sym (one_more table c.args.self.now.rows.items earlier kept frequency c.put.new.rows.items pushed);
    }
