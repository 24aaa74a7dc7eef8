-- All runs of trips, and how they are sorted into patterns.
use Rattle.std.specs.Prelude.{◌≡◌, Option, Some, None, slice_get, ℕ, zero, suc, ◌+◌, ◌-◌, ◌<◌, ◌≤◌, List, [], ◌∷◌, ◌++◌, length, All, AllPairs, sum_by, slice_index_or, if◌then◌else◌}
use Rattle.plan_base.specs.{DaySet, contains_day}
use Rattle.timetable_arcs.specs.{declared.trips.Call.Call, declared.trips.Instance.Instance, declared.patterns.LastPut.LastPut, Trips.TripLists, Patterns.TableLists, Patterns.plain_table, Patterns.trip_at, Patterns.no_run, Patterns.no_trip, Patterns.no_call, Patterns.AreAlike, Patterns.IsBehind}

-- the runs of the trip at a place on its days below n
abbrev pub runs_below : ℕ → DaySet → ℕ → List Instance
runs_below place days zero = []
runs_below place days (suc n) = runs_below place days n ++ (if contains_day days n then record { trip = place; day = n } ∷ [] else [])

-- the runs of the trips, whose places are counted from one on, on their days below n
abbrev pub runs_from : ℕ → ℕ → List TripLists → List Instance
runs_from n place [] = []
runs_from n place (trip ∷ trips) = runs_below place trip.days n ++ runs_from n (place + 1) trips

-- the weight of the run of the trip at a place on a day, if it runs then
abbrev pub weight_on : (Instance → ℕ) → List TripLists → ℕ → ℕ → ℕ
weight_on weight trips day place =
    if contains_day (slice_index_or trips place no_trip).days day then weight (record { trip = place; day = day }) else 0

-- the sum of a weight of runs over all patterns
abbrev pub sum_all : (Instance → ℕ) → List (List Instance) → ℕ
sum_all weight patterns = sum_by (λ runs. sum_by weight runs) patterns

-- runs that stand in a pattern
pub record IsPattern (t : TableLists) (runs : List Instance) : Type 0 where
  pub some : 0 < length runs
  pub alike : All (λ run. AreAlike (trip_at t (slice_index_or runs 0 no_run).trip) (trip_at t run.trip)) runs
  pub in_turn : AllPairs (IsBehind t) runs

-- each of these numbers is of a trip that is alike the one at its place
abbrev pub AreHeads : List TripLists → List ℕ → Type 0
AreHeads trips heads = (place head : ℕ) → slice_get heads place ≡ Some head → AreAlike (trip_at (plain_table [] trips) head) (trip_at (plain_table [] trips) place)

-- there is one number at both places
pub record HaveSameHead (heads : List ℕ) (a b : ℕ) : Type 0 where
  pub head : ℕ
  pub one : slice_get heads a ≡ Some head
  pub other : slice_get heads b ≡ Some head

-- n of the element before a place is below t, and that of the one at the place is not
pub record IsFirstFrom {X : Type 0} (n : X → ℕ) (t : ℕ) (xs : List X) (place : ℕ) : Type 0 where
  pub within : place ≤ length xs
  pub before : (d : X) → 0 < place → n (slice_index_or xs (place - 1) d) < t
  pub at : (d : X) → place < length xs → t ≤ n (slice_index_or xs place d)

-- a run may stand behind those of a pattern: its trip is alike, and it is behind the last one
pub record MayJoinPattern (t : TableLists) (runs : List Instance) (run : Instance) : Type 0 where
  pub alike : AreAlike (trip_at t (slice_index_or runs 0 no_run).trip) (trip_at t run.trip)
  pub behind : IsBehind t (slice_index_or runs (length runs - 1) no_run) run

-- at each of the first calls the second departs later, and arrives no earlier, if both are of one day
pub record AreCallsBehind (first second : List Call) : Type 0 where
  pub departs_later : (call : ℕ) → call < length first → (slice_index_or first call no_call).dep < (slice_index_or second call no_call).dep
  pub arrives_no_earlier : (call : ℕ) → call < length first → (slice_index_or first call no_call).arr ≤ (slice_index_or second call no_call).arr

-- the calls of the trip at a place are behind those of the trip that is noted, if there is one
abbrev pub IsBehindNoted : List TripLists → ℕ → Option ℕ → Type 0
IsBehindNoted trips place noted =
    (before : ℕ) → noted ≡ Some before → AreCallsBehind (slice_index_or trips before no_trip).calls (slice_index_or trips place no_trip).calls

-- what is kept of a trip none of whose runs was put yet
abbrev pub nothing_put : LastPut
nothing_put = record { pattern = 0; before = None }

-- each trip's calls are behind those of the trip that is noted of it, if there is one
abbrev pub AreLastPuts : List TripLists → List LastPut → Type 0
AreLastPuts trips puts = (place : ℕ) → IsBehindNoted trips place (slice_index_or puts place nothing_put).before
