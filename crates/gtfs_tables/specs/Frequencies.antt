-- frequencies.txt: a trip leaves anew at a steady headway.
use Rattle.std.specs.Prelude.{ℕ, List, [], ◌∷◌, false, true, not, is_some, Option, None, option_map, Result, Ok}
pub use Rattle.gtfs_tables.specs.{declared.columns.Column.TheVariants.StartTime, declared.columns.Column.TheVariants.EndTime, declared.columns.Column.TheVariants.HeadwaySecs, declared.columns.Column.TheVariants.ExactTimes, declared.frequencies.Span.Span}
use Rattle.gtfs_tables.specs.{declared.columns.Column.TheVariants.TripId, declared.faults.FeedFault.FeedFault, declared.frequencies.FrequencyRow.FrequencyRow, Forms.headway_at, Forms.is_usual_at, Forms.service_time_at, TableRows.TableRow, TableRows.id_in, TableRows.value_in, Tables.Table, Answers.◌>>=◌, Trips.place_among}
use Rattle.gtfs_tables.specs.declared.files.FeedFile.TheVariants as file

-- what a row says
pub record Frequency : Type 0 where
  pub row : ℕ
  pub trip : List ℕ
  pub span : Span

-- The times are exact where the field is 1.
abbrev pub span_in : TableRow → Result Span FeedFault
span_in row = do
  start ← value_in service_time_at row StartTime
  end ← value_in service_time_at row EndTime
  headway ← value_in headway_at row HeadwaySecs
  inexact ← value_in (is_usual_at 1) row ExactTimes
  Ok (record { start = start; end = end; headway = headway; exact = not inexact })

abbrev pub frequency_in : TableRow → Result Frequency FeedFault
frequency_in row = do
  trip ← id_in row TripId
  span ← span_in row
  Ok (record { row = row.number; trip = trip; span = span })

-- a row with the place of its trip
abbrev pub frequency_over : Frequency → ℕ → FrequencyRow
frequency_over frequency trip = record {
  row = frequency.row;
  trip = trip;
  start = frequency.span.start;
  end = frequency.span.end;
  headway = frequency.span.headway;
  exact = frequency.span.exact;
}

abbrev pub frequency_of : List (List ℕ) → Frequency → Option FrequencyRow
frequency_of trips frequency = option_map (frequency_over frequency) (place_among trips frequency.trip)

-- the headways of trips of these ids; a trip may have many, and there may be any number of them
abbrev pub frequencies : List (List ℕ) → Table Frequency FrequencyRow
frequencies trips = record {
  file = file.Frequencies;
  needed = TripId ∷ StartTime ∷ EndTime ∷ HeadwaySecs ∷ [];
  reads = frequency_in;
  has_key_of = λ frequency earlier. false;
  refers = λ frequency. (TripId, is_some (place_among trips frequency.trip)) ∷ [];
  has_zone_of = λ frequency first. true;
  gives = frequency_of trips;
  limit = None;
}
