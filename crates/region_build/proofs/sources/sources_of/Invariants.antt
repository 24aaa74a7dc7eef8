use Rattle.plan_base.proofs.Common.{◌≡◌, ℕ, ◌+◌, ◌++◌, ◌≤◌, List, length, map, filter}
use Rattle.region_build.specs.{inside.KnowDays, inside.at, inside.listed, Ascend, is_of, trip_of_call, trip_of_frequency, AreSourcesFrom, SourceLists, lists_of}
use Rattle.region_build.proofs.sources.sources_of.Given as goal

abbrev pub decreases-loop-rest : goal.decreases-loop-rest
decreases-loop-rest l = length l.rest

abbrev pub invariant-loop-rest : goal.invariant-loop-rest
invariant-loop-rest l = record {
  so_far : (later : List SourceLists) → AreSourcesFrom l.feed l.days l.calls l.frequencies l.place l.rest later
      → AreSourcesFrom l.feed l.days l.calls l.frequencies 0 l.feed.trips (map lists_of l.sources.items ++ later);
  count : l.place + length l.rest ≡ length l.feed.trips;
  calls_ascend : Ascend trip_of_call l.place l.calls_left;
  frequencies_ascend : Ascend trip_of_frequency l.place l.frequencies_left;
  calls_same : (k : ℕ) → l.place ≤ k → filter (is_of trip_of_call k) l.calls_left ≡ filter (is_of trip_of_call k) l.calls;
  frequencies_same : (k : ℕ) → l.place ≤ k → filter (is_of trip_of_frequency k) l.frequencies_left ≡ filter (is_of trip_of_frequency k) l.frequencies;
  know : KnowDays l.days (at l.services.rules) (listed l.services.added) (listed l.services.removed) (at l.known);
}
