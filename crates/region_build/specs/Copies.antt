-- The trips of a region: the trips of a feed, each as often as its headways have it leave.
use Rattle.std.specs.Prelude.{ℕ, zero, suc, ◌+◌, ◌-◌, List, [], ◌∷◌, length, map, filter, Bool, true, not, ◌&&◌, nat_le, nat_lt, Option, None, Some, unwrap_or, if◌then◌else◌, flat_map}
use Rattle.std.specs.List.{list_all}
use Rattle.std.specs.Option.{option_or}
use Rattle.plain_texts.specs.{escaped}
use Rattle.gtfs_tables.specs.{CallRow, FrequencyRow}
use Rattle.timetable_arcs.specs.{TripLists, Call}
use Rattle.region_build.specs.Sources.{SourceLists}

-- when a trip leaves its first stop
abbrev pub first_departure : List CallRow → ℕ
first_departure [] = 0
first_departure (call ∷ calls) = call.dep

-- the times from t on at a steady headway that are before the end, at most so many
abbrev pub departing : ℕ → ℕ → ℕ → ℕ → List ℕ
departing zero t end headway = []
departing (suc most) t end headway = if nat_lt t end then t ∷ departing most (t + headway) end headway else []

-- when it leaves by a row of frequencies.txt: a headway takes a second or more
unfoldable pub departures_by : FrequencyRow → List ℕ
departures_by row = departing (row.end - row.start) row.start row.end row.headway

-- a time of the trip, where it leaves then instead; a first arrival that would fall below 0 is 0
abbrev pub moved : ℕ → ℕ → ℕ → ℕ
moved first leave time = time + leave - first

-- a copy's times are below 168 hours
abbrev pub is_copy_early : ℕ → ℕ → CallRow → Bool
is_copy_early first leave call = nat_le (moved first leave call.arr) 604799 && nat_le (moved first leave call.dep) 604799

unfoldable pub call_at : (ℕ → Option ℕ) → ℕ → ℕ → CallRow → Call
call_at number first leave call = record {
  stop = unwrap_or (number call.stop) 0;
  arr = moved first leave call.arr;
  dep = moved first leave call.dep;
  board = call.board;
  alight = call.alight;
}

-- the trip that leaves then; `number` gives the numbers of the stops
unfoldable pub copy_at : (ℕ → Option ℕ) → SourceLists → ℕ → TripLists
copy_at number source leave = record {
  letter = source.letter;
  days = source.days;
  name = escaped source.id;
  calls = map (call_at number (first_departure source.calls) leave) source.calls;
}

-- a copy is kept whose times are all below 168 hours
abbrev pub is_kept : SourceLists → ℕ → Bool
is_kept source leave = list_all (is_copy_early (first_departure source.calls) leave) source.calls

-- a trip runs that has two calls or more, and some day
abbrev pub runs : SourceLists → Bool
runs source = nat_le 2 (length source.calls) && nat_lt 0 source.days.0

-- One that runs leaves, unless it has a headway without exact times.
abbrev pub is_leaving : SourceLists → Bool
is_leaving source = runs source && list_all (λ row. row.exact) source.frequencies

-- once, or by its headways
abbrev pub departures_by_all : SourceLists → List FrequencyRow → List ℕ
departures_by_all source [] = first_departure source.calls ∷ []
departures_by_all source (row ∷ rows) = flat_map departures_by (row ∷ rows)

-- the times at which it leaves, were all its copies kept
unfoldable pub departures_of : SourceLists → List ℕ
departures_of source = if is_leaving source then departures_by_all source source.frequencies else []

-- and those of the copies that are kept
unfoldable pub leaves_of : SourceLists → List ℕ
leaves_of source = filter (is_kept source) (departures_of source)

unfoldable pub copies_of : (ℕ → Option ℕ) → SourceLists → List TripLists
copies_of number source = map (copy_at number source) (leaves_of source)

-- the trips of a region
unfoldable pub expanded : (ℕ → Option ℕ) → List SourceLists → List TripLists
expanded number sources = flat_map (copies_of number) sources

-- A trip's times go back where a call arrives before the one before it departs, or departs before it arrives. Those of
-- its copies go back exactly where its own do: they are moved together, and one that would fall below 0 goes back.
abbrev pub rows_go_on : ℕ → List CallRow → Bool
rows_go_on t [] = true
rows_go_on t (call ∷ calls) = nat_le t call.arr && nat_le call.arr call.dep && rows_go_on call.dep calls

-- the row in trips.txt of a trip that has a copy and whose times go back
abbrev pub back_of : ℕ → SourceLists → Option ℕ
back_of copies source = if nat_lt 0 copies && not (rows_go_on 0 source.calls) then Some source.row else None

-- that of the first such trip
abbrev pub first_back : List SourceLists → Option ℕ
first_back [] = None
first_back (source ∷ sources) = option_or (back_of (length (leaves_of source)) source) (first_back sources)
