-- When best journeys arrive, at one destination and at many.
use Rattle.std.specs.Prelude.{◌≡◌, ℕ, ◌<◌, List, length, Option, Some, None, slice_index_or}
use Rattle.mode_expression.specs.{form_of}
use Rattle.mode_network.specs.{NetworkLists.NetworkLists, Route}
use Rattle.journey.specs.{Query, Asked, IsBest, HasNone}

-- when a best journey arrives; or None where no journey answers
abbrev pub IsBestArrival : NetworkLists → Asked → Option ℕ → Type 0
IsBestArrival n asked (Some arrival) = (j : Route) × (best : IsBest n asked j) × (best.arrival ≡ arrival)
IsBestArrival n asked None = HasNone n asked

-- what a query asks, but with the destination of another
abbrev pub asked_to : Query → Query → Asked
asked_to q other = record { from = q.from; to = other.to; depart = q.depart; form = form_of q.expr }

-- that at the destination of another query; or None where there is no other
abbrev pub IsArrivalTo : NetworkLists → Query → Option Query → Option ℕ → Type 0
IsArrivalTo n q None arrival = arrival ≡ None
IsArrivalTo n q (Some other) arrival = IsBestArrival n (asked_to q other) arrival

-- those at the destinations of other queries, one for each place in their list
pub record AreArrivalsTo (n : NetworkLists) (q : Query) (others : List (Option Query)) (arrivals : List (Option ℕ)) : Type 0 where
  pub one_each : length arrivals ≡ length others
  pub are : (k : ℕ) → k < length others → IsArrivalTo n q (slice_index_or others k None) (slice_index_or arrivals k None)
