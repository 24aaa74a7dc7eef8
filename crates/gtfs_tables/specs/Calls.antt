-- stop_times.txt
use Rattle.std.specs.Prelude.{◌≡◌, unwrap_or, ℕ, List, [], ◌∷◌, Bool, true, bytes_eq, nat_eq, ◌&&◌, is_some, Option, None, Some, option_and_then, option_map, Result, Ok}
use Rattle.std.specs.List.{AllByRecursion}
use Rattle.plan_base.specs.{Caps}
use Rattle.plan_base.specs.declared.limits.Kind.TheVariants as kind
use Rattle.gtfs_tables.specs.{declared.columns.Column.Column, declared.columns.Column.TheVariants.TripId, declared.columns.Column.TheVariants.StopId, declared.faults.FeedFault.FeedFault, declared.calls.CallRow.CallRow, Forms.up_to_nine_digits_at, Forms.optional_time_at, Forms.is_usual_at, inside.Holding.Holds, TableRows.TableRow, TableRows.id_in, TableRows.value_in, Tables.Table, Answers.◌>>=◌, Trips.place_among}
pub use Rattle.gtfs_tables.specs.{declared.columns.Column.TheVariants.StopSequence, declared.columns.Column.TheVariants.ArrivalTime, declared.columns.Column.TheVariants.DepartureTime, declared.columns.Column.TheVariants.PickupType, declared.columns.Column.TheVariants.DropOffType, declared.calls.Visit.Visit, declared.calls.Times.Times}
use Rattle.gtfs_tables.specs.declared.files.FeedFile.TheVariants as file

-- what a row says
pub record StopTime : Type 0 where
  pub row : ℕ
  pub trip : List ℕ
  pub stop : List ℕ
  pub visit : Visit

-- Where one of arrival and departure is given it serves for both. A row with neither is no call.
abbrev pub times_of : Option ℕ → Option ℕ → Option Times
times_of None None = None
times_of (Some arr) None = Some (record { arr = arr; dep = arr })
times_of None (Some dep) = Some (record { arr = dep; dep = dep })
times_of (Some arr) (Some dep) = Some (record { arr = arr; dep = dep })

abbrev pub times_in : TableRow → Result (Option Times) FeedFault
times_in row = do
  arrival ← value_in optional_time_at row ArrivalTime
  departure ← value_in optional_time_at row DepartureTime
  Ok (times_of arrival departure)

-- Boarding and alighting are allowed where the field is empty or 0.
abbrev pub visit_in : TableRow → Result Visit FeedFault
visit_in row = do
  sequence ← value_in up_to_nine_digits_at row StopSequence
  times ← times_in row
  board ← value_in (is_usual_at 3) row PickupType
  alight ← value_in (is_usual_at 3) row DropOffType
  Ok (record { sequence = sequence; times = times; board = board; alight = alight })

abbrev pub stop_time_in : TableRow → Result StopTime FeedFault
stop_time_in row = do
  trip ← id_in row TripId
  stop ← id_in row StopId
  visit ← visit_in row
  Ok (record { row = row.number; trip = trip; stop = stop; visit = visit })

abbrev pub call_if_timed : ℕ → ℕ → ℕ → Visit → Option CallRow
call_if_timed n trip stop visit = option_map (λ times. record {
  row = n;
  trip = trip;
  stop = stop;
  sequence = visit.sequence;
  arr = times.arr;
  dep = times.dep;
  board = visit.board;
  alight = visit.alight;
}) visit.times

-- a call with the places of its trip and its stop
abbrev pub call_between : StopTime → Option ℕ → Option ℕ → Option CallRow
call_between time trip stop = option_and_then (λ trip. option_and_then (λ stop. call_if_timed time.row trip stop time.visit) stop) trip

abbrev pub call_row_of : List (List ℕ) → List (List ℕ) → StopTime → Option CallRow
call_row_of trips stops time =
    call_between time (place_among trips time.trip) (place_among stops time.stop)

abbrev pub references : Option ℕ → Option ℕ → List (Column × Bool)
references trip stop = (TripId, is_some trip) ∷ (StopId, is_some stop) ∷ []

-- the calls of trips of these ids at stops of these ids
abbrev pub calls : Caps → List (List ℕ) → List (List ℕ) → Table StopTime CallRow
calls caps trips stops = record {
  file = file.StopTimes;
  needed = TripId ∷ StopId ∷ StopSequence ∷ ArrivalTime ∷ DepartureTime ∷ [];
  reads = stop_time_in;
  has_key_of = λ time earlier. bytes_eq time.trip earlier.trip && nat_eq time.visit.sequence earlier.visit.sequence;
  refers = λ time. references (place_among trips time.trip) (place_among stops time.stop);
  has_zone_of = λ time first. true;
  gives = call_row_of trips stops;
  limit = Some (kind.Calls, caps.calls);
}

-- a row's key, told by the place of its trip
abbrev pub call_key_of : List (List ℕ) → StopTime → ℕ × ℕ
call_key_of trips time = (unwrap_or (place_among trips time.trip) 0, time.visit.sequence)

abbrev pub is_same_key : ℕ × ℕ → ℕ × ℕ → Bool
is_same_key key other = nat_eq key.0 other.0 && nat_eq key.1 other.1

abbrev pub HasTrip : List (List ℕ) → StopTime → Type 0
HasTrip trips time = is_some (place_among trips time.trip) ≡ true

-- the keys and the calls of the earlier rows are kept, which are all of trips
pub record KeepsCalls (caps : Caps) (trips stops : List (List ℕ)) (keys : List (ℕ × ℕ)) (rows : List CallRow) (earlier : List StopTime) : Type 0 where
  pub holds : Holds (calls caps trips stops) (call_key_of trips) keys rows earlier
  pub known : AllByRecursion (HasTrip trips) earlier
