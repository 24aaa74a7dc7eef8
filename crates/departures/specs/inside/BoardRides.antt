-- The rides from one board by least times, as the arcs from a place on.
use Rattle.std.specs.Prelude.{◌≡◌, ℕ, ◌+◌, ◌-◌, ◌++◌, true, List, [], ◌∷◌, take, drop}
use Rattle.search_laws.specs.{GraphMeaning, is_open, ways_from, Way}
use Rattle.timetable_arcs.specs.{Ride as RideCalls, TableLists, pattern_trip, alights}
use Rattle.mode_network.specs.NetworkLists.{NetworkLists}
use Rattle.plain_graph.specs.{Ride, graph_arc}
use Rattle.departures.specs.{declared.fastest.FastestCall.FastestCall, Fastest.least_ms}

-- the ride from where this one begins to a call
abbrev pub ride_to : RideCalls → ℕ → RideCalls
ride_to ride alight = record { pattern = ride.pattern; board = ride.board; alight = alight }

-- a ride as the arc at a place
abbrev pub least_way : NetworkLists → TableLists → List (List FastestCall) → ℕ → ℕ → RideCalls → Way
least_way n t runs time place ride = record {
  place = place;
  arc = graph_arc n t 0 (Ride ride);
  at = time + least_ms runs ride;
}

-- the rides from where this one begins to each of some calls, as the arcs at this place and the next ones
abbrev pub least_ways : NetworkLists → TableLists → List (List FastestCall) → ℕ → RideCalls → ℕ → List ℕ
    → List Way
least_ways n t runs time ride place [] = []
least_ways n t runs time ride place (alight ∷ alights) =
    least_way n t runs time place (ride_to ride alight) ∷ least_ways n t runs time ride (place + 1) alights

-- the calls of a pattern from one on at which one may alight, but no more than so many
abbrev pub ends_from : TableLists → ℕ → ℕ → ℕ → List ℕ
ends_from t p k most = take most (alights k (drop k (pattern_trip t p).calls))

-- a list goes on with the arcs from a place up to another, whatever set has the letter of the first
abbrev pub AddsAlike : GraphMeaning → ℕ → ℕ → ℕ → ℕ → List Way → List Way → Type 0
AddsAlike g v time place next before after = (letters : ℕ) → is_open letters (g.arc_at v place).letter ≡ true
    → after ≡ before ++ ways_from g v time letters place (next - place)
