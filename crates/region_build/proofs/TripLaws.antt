-- The ids of what is said of trips.
use Rattle.plan_base.proofs.Common.{ℕ, ◌+◌, List, [], ◌∷◌, map, subst, sym, AllByRecursion}
use Rattle.service_days.specs.DaysMeaning.{DaysMeaning}
use Rattle.gtfs_tables.specs.{FeedLists.FeedLists, IsFeedId, IsTrip, CallRow, FrequencyRow, TripRow}
use Rattle.region_build.specs.{AreSourcesFrom, lists_of, Source}

-- they are those of the trips
pub sources_have_ids : (feed : FeedLists) (days : DaysMeaning) (calls : List CallRow) (frequencies : List FrequencyRow) (k routes : ℕ) (trips : List TripRow) (sources : List Source)
    → AreSourcesFrom feed days calls frequencies k trips (map lists_of sources) → AllByRecursion (IsTrip routes) trips → AllByRecursion (λ source. IsFeedId source.id.now) sources
sources_have_ids feed days calls frequencies k routes [] [] are ids = tt
sources_have_ids feed days calls frequencies k routes [] (source ∷ sources) are ids = absurd are
sources_have_ids feed days calls frequencies k routes (trip ∷ trips) [] are ids = tt
sources_have_ids feed days calls frequencies k routes (trip ∷ trips) (source ∷ sources) are ids =
    (subst IsFeedId (sym are.0.id) ids.0.id, sources_have_ids feed days calls frequencies (k + 1) routes trips sources are.1 ids.1)
