-- What each timetable keeps.
use Rattle.std.specs.Prelude.{◌<◌, ◌≤◌, ◌^◌, List, ℕ, length, All, AllPairs, sum_by, slice_index_or}
use Rattle.timetable_arcs.specs.{TripRules.AreTrips, Patterns.TableLists, Patterns.ArePatterns, Patterns.trip_at, Patterns.no_run}

-- the bases of the days rise, and are below 2 ^ 40
pub record AreBases (bases : List ℕ) : Type 0 where
  pub rise : AllPairs (λ a b. a < b) bases
  pub small : All (λ base. base < 2 ^ 40) bases

pub record IsTable (t : TableLists) : Type 0 where
  pub bases : AreBases t.bases
  pub trips : AreTrips (length t.bases) t.stops t.trips
  pub patterns : ArePatterns t
  -- the patterns together have few calls
  pub few_calls : sum_by (λ runs. length (trip_at t (slice_index_or runs 0 no_run).trip).calls) t.patterns ≤ 2 ^ 32
