-- What the tables of a feed say of a trip.
use Rattle.std.specs.Prelude.{◌≡◌, ℕ, ◌+◌, List, [], ◌∷◌, filter, unwrap_or, slice_get, option_map, IsPermutation, IsSorted}
use Rattle.std.specs.Ordering.{nat_cmp, ordering_then}
use Rattle.plan_base.specs.{DaySet}
use Rattle.service_days.specs.DaysMeaning.{DaysMeaning}
use Rattle.gtfs_tables.specs.{FeedLists.FeedLists, CallRow, FrequencyRow, RouteRow, TripRow}
pub use Rattle.region_build.specs.declared.sources.Source.{Source}
use Rattle.region_build.specs.{Groups.is_of, Groups.trip_of_call, Groups.trip_of_frequency, Services.AreDaysOf}

-- a trip's row in trips.txt and its id, the letter of its route, the days of its service, its calls in the order of
-- their sequence numbers, and its headways in the order of frequencies.txt
pub record SourceLists : Type 0 where
  pub row : ℕ
  pub id : List ℕ
  pub letter : ℕ
  pub days : DaySet
  pub calls : List CallRow
  pub frequencies : List FrequencyRow

abbrev pub lists_of : Source → SourceLists
lists_of source = record {
  row = source.row;
  id = source.id.now;
  letter = source.letter;
  days = source.days;
  calls = source.calls.now;
  frequencies = source.frequencies.now;
}

-- the calls of a feed in the order of their trips and sequence numbers
pub record AreCallsInOrder (calls sorted : List CallRow) : Type 0 where
  pub same : IsPermutation calls sorted
  pub ascend : IsSorted (λ a b. ordering_then (nat_cmp a.trip b.trip) (nat_cmp a.sequence b.sequence)) sorted

-- the headways of a feed in the order of their trips and rows
pub record AreFrequenciesInOrder (frequencies sorted : List FrequencyRow) : Type 0 where
  pub same : IsPermutation frequencies sorted
  pub ascend : IsSorted (λ a b. ordering_then (nat_cmp a.trip b.trip) (nat_cmp a.row b.row)) sorted

abbrev pub letter_of : List RouteRow → ℕ → ℕ
letter_of routes route = unwrap_or (option_map (λ (row : RouteRow). row.letter) (slice_get routes route)) 0

-- what is said of a trip that has these calls and these headways
pub record IsSource (feed : FeedLists) (days : DaysMeaning) (calls : List CallRow) (frequencies : List FrequencyRow) (trip : TripRow) (source : SourceLists) : Type 0 where
  pub row : source.row ≡ trip.row
  pub id : source.id ≡ trip.id
  pub letter : source.letter ≡ letter_of feed.routes trip.route
  pub runs : AreDaysOf feed days trip.service source.days
  pub calls_are : source.calls ≡ calls
  pub frequencies_are : source.frequencies ≡ frequencies

-- of each of these trips, whose places are counted from k
abbrev pub AreSourcesFrom : FeedLists → DaysMeaning → List CallRow → List FrequencyRow → ℕ → List TripRow → List SourceLists → Type 0
AreSourcesFrom feed days calls frequencies k [] [] = Unit {0}
AreSourcesFrom feed days calls frequencies k [] (source ∷ sources) = ⊥
AreSourcesFrom feed days calls frequencies k (trip ∷ trips) [] = ⊥
AreSourcesFrom feed days calls frequencies k (trip ∷ trips) (source ∷ sources) =
    IsSource feed days (filter (is_of trip_of_call k) calls) (filter (is_of trip_of_frequency k) frequencies) trip source
    × AreSourcesFrom feed days calls frequencies (k + 1) trips sources

-- of all trips of a feed
pub record AreTripSources (feed : FeedLists) (days : DaysMeaning) (sources : List SourceLists) : Type 0 where
  pub calls : List CallRow
  pub calls_are : AreCallsInOrder feed.calls calls
  pub frequencies : List FrequencyRow
  pub frequencies_are : AreFrequenciesInOrder feed.frequencies frequencies
  pub each : AreSourcesFrom feed days calls frequencies 0 feed.trips sources
