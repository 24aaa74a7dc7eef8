-- The departures of a window that are worth listing.
use Rattle.std.specs.Prelude.{◌≡◌, ℕ, ◌+◌, ◌<◌, ◌≤◌, List, [], ◌∷◌, map, All, AllPairs, Contains, Option, Some, None}
use Rattle.mode_network.specs.{Step, Wait, Link, Stand, Ride, Route, declared.steps.Step.TheVariants.Road, NetworkLists.NetworkLists}
use Rattle.journey.specs.{Asked, Answers, BoardsOnTime}
use Rattle.few_boardings.specs.{rides}
pub use Rattle.departures.specs.{declared.row.Pair.Pair, declared.row.Row.Row}

-- the journey answers, departs and arrives so, and has a ride among its steps
pub record IsRidden (n : NetworkLists) (q : Asked) (p : Pair) (j : Route) : Type 0 where
  pub answers : Answers n q j p.arrive
  pub departs : j.at ≡ p.depart
  pub rides : 0 < rides j

-- some journey does
abbrev pub IsPair : NetworkLists → Asked → Pair → Type 0
IsPair n q p = (j : Route) × IsRidden n q p j

-- no other such pair has a departure that is as late and an arrival that is as early
pub record IsUndominated (n : NetworkLists) (q : Asked) (p : Pair) : Type 0 where
  pub pair : IsPair n q p
  pub alone : (o : Pair) → IsPair n q o → p.depart ≤ o.depart → o.arrive ≤ p.arrive → o ≡ p

-- a journey without a ride that answers takes this time, and none takes less
pub record IsShortest (n : NetworkLists) (q : Asked) (c : ℕ) : Type 0 where
  pub journey : Route
  pub answers : Answers n q journey (journey.at + c)
  pub without : rides journey ≡ 0
  pub least : (k : Route) (u : ℕ) → rides k ≡ 0 → Answers n q k u → k.at + c ≤ u

-- the time that it takes without a ride; or no journey without one answers
abbrev pub IsWithout : NetworkLists → Asked → Option ℕ → Type 0
IsWithout n q (Some c) = IsShortest n q c
IsWithout n q None = (k : Route) (u : ℕ) → rides k ≡ 0 → Answers n q k u → ⊥

-- it takes less time than it takes without a ride, if one can do without
abbrev pub IsShorter : Option ℕ → Pair → Type 0
IsShorter (Some c) p = p.arrive < p.depart + c
IsShorter None p = Unit {0}

-- the pair is undominated, departs within the window, which opens when the query departs, and takes less time than without a ride
pub record IsListed (n : NetworkLists) (q : Asked) (without : Option ℕ) (window : ℕ) (p : Pair) : Type 0 where
  pub undominated : IsUndominated n q p
  pub within : p.depart < q.depart + window
  pub shorter : IsShorter without p

-- these pairs, and no others, by rising departures
pub record AreDepartures (n : NetworkLists) (q : Asked) (without : Option ℕ) (window : ℕ) (pairs : List Pair) : Type 0 where
  pub rising : AllPairs (λ first second. first.depart < second.depart) pairs
  pub listed : All (IsListed n q without window) pairs
  pub whole : (p : Pair) → IsListed n q without window p → Contains pairs p

-- ---- journeys

-- no wait stands before the first step that moves
abbrev pub SetsOff : List Step → Type 0
SetsOff [] = Unit {0}
SetsOff (Wait until ∷ steps) = ⊥
SetsOff (Stand ∷ steps) = SetsOff steps
SetsOff (Road to ∷ steps) = Unit {0}
SetsOff (Link to ∷ steps) = Unit {0}
SetsOff (Ride trip day board alight ∷ steps) = Unit {0}

-- the journey of a row departs and arrives as its pair says, boards each ride when it departs, and begins with its first step that moves
pub record IsRow (n : NetworkLists) (q : Asked) (row : Row) : Type 0 where
  pub ridden : IsRidden n q row.pair row.journey
  pub boarded : BoardsOnTime n row.journey
  pub sets_off : SetsOff row.journey.steps

abbrev pub pair_of : Row → Pair
pair_of row = row.pair

-- a row for each departure of the window
pub record AreRows (n : NetworkLists) (q : Asked) (without : Option ℕ) (window : ℕ) (rows : List Row) : Type 0 where
  pub departures : AreDepartures n q without window (map pair_of rows)
  pub right : All (IsRow n q) rows
