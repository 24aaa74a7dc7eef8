-- How the runs of a timetable are sorted into patterns, along which none overtakes another.
use Rattle.std.specs.Prelude.{◌≡◌, ℕ, ◌<◌, ◌≤◌, false, List, [], ◌∷◌, length, Option, Some, None, Contains, AllPairs, find, nat_le, slice_index_or, if◌then◌else◌}
use Rattle.timetable_arcs.specs.{declared.trips.Call.Call, Trips.TripLists, Trips.IsRunOf, Trips.arrival_of, Trips.departure_of}
pub use Rattle.timetable_arcs.specs.declared.trips.Instance.{Instance}

-- the bases of the days, how many stops there are, the trips, and of each pattern its runs in order
pub record TableLists : Type 0 where
  pub bases : List ℕ
  pub stops : ℕ
  pub trips : List TripLists
  pub patterns : List (List Instance)

-- a table of these bases and trips, without stops and patterns: runs are in it when and where they are in any
abbrev pub plain_table : List ℕ → List TripLists → TableLists
plain_table bases trips = record { bases = bases; stops = 0; trips = trips; patterns = [] }

abbrev pub no_trip : TripLists
no_trip = record { letter = 0; days = record { 0 = 0 }; name = []; calls = [] }

abbrev pub no_call : Call
no_call = record { stop = 0; arr = 0; dep = 0; board = false; alight = false }

abbrev pub no_run : Instance
no_run = record { trip = 0; day = 0 }

-- the trip of a run, and its call at a place
abbrev pub trip_at : TableLists → ℕ → TripLists
trip_at t place = slice_index_or t.trips place no_trip

abbrev pub call_of : TableLists → Instance → ℕ → Call
call_of t run call = slice_index_or (trip_at t run.trip).calls call no_call

-- when a run arrives at a call, and when it departs
abbrev pub arrives : TableLists → Instance → ℕ → ℕ
arrives t run call = arrival_of t.bases run.day (call_of t run call)

abbrev pub departs : TableLists → Instance → ℕ → ℕ
departs t run call = departure_of t.bases run.day (call_of t run call)

-- the runs of a pattern; its letter and its calls are those of the trip of the first run
abbrev pub runs_of : TableLists → ℕ → List Instance
runs_of t p = slice_index_or t.patterns p []

abbrev pub pattern_trip : TableLists → ℕ → TripLists
pattern_trip t p = trip_at t (slice_index_or (runs_of t p) 0 no_run).trip

-- the first run of a pattern that departs at a call at a time or later
abbrev pub next_run : TableLists → ℕ → ℕ → ℕ → Option Instance
next_run t p call time = find (λ run. nat_le time (departs t run call)) (runs_of t p)

-- the last run of a pattern that arrives at a call at a time or earlier
abbrev pub last_arrived : TableLists → ℕ → ℕ → List Instance → Option Instance → Option Instance
last_arrived t call time [] last = last
last_arrived t call time (run ∷ runs) last = last_arrived t call time runs (if nat_le (arrives t run call) time then Some run else last)

abbrev pub last_run : TableLists → ℕ → ℕ → ℕ → Option Instance
last_run t p call time = last_arrived t call time (runs_of t p) None

-- calls at the same stop, with the same leave to board and to alight
pub record IsAlike (a b : Call) : Type 0 where
  pub stop : a.stop ≡ b.stop
  pub board : a.board ≡ b.board
  pub alight : a.alight ≡ b.alight

-- trips with the same letter and alike calls
pub record AreAlike (a b : TripLists) : Type 0 where
  pub letter : a.letter ≡ b.letter
  pub calls : length a.calls ≡ length b.calls
  pub each : (k : ℕ) (d : Call) → k < length a.calls → IsAlike (slice_index_or a.calls k d) (slice_index_or b.calls k d)

-- one run is behind another: at every call it departs later, and arrives no earlier
pub record IsBehind (t : TableLists) (first second : Instance) : Type 0 where
  pub departs_later : (call : ℕ) → call < length (trip_at t first.trip).calls → departs t first call < departs t second call
  pub arrives_no_earlier : (call : ℕ) → call < length (trip_at t first.trip).calls → arrives t first call ≤ arrives t second call

-- the run is one of the pattern
abbrev pub IsIn : TableLists → ℕ → Instance → Type 0
IsIn t p run = Contains (runs_of t p) run

-- the runs are sorted into patterns: each stands in exactly one, those of a pattern are alike, and none overtakes another
pub record ArePatterns (t : TableLists) : Type 0 where
  pub some : (p : ℕ) → p < length t.patterns → 0 < length (runs_of t p)
  pub are_runs : (p : ℕ) (run : Instance) → IsIn t p run → IsRunOf t.trips run.trip run.day (trip_at t run.trip)
  pub each : (run : Instance) (trip : TripLists) → IsRunOf t.trips run.trip run.day trip → (p : ℕ) × IsIn t p run
  pub once : (p q : ℕ) (run : Instance) → IsIn t p run → IsIn t q run → p ≡ q
  pub alike : (p : ℕ) (run : Instance) → IsIn t p run → AreAlike (pattern_trip t p) (trip_at t run.trip)
  pub in_turn : (p : ℕ) → p < length t.patterns → AllPairs (IsBehind t) (runs_of t p)
