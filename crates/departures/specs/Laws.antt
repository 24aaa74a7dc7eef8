-- Laws of the departures of a window.
use Rattle.std.specs.Prelude.{◌≡◌, ℕ, ◌+◌, ◌<◌, ◌≤◌, ◌⊎◌, nat_le, List, [], ◌∷◌, Option, Some, None, if◌then◌else◌}
use Rattle.mode_network.specs.{NetworkLists.NetworkLists, Route}
use Rattle.journey.specs.{KeepsRules, Asked, Answers}
use Rattle.departures.specs.{declared.row.Pair.Pair, Departures.IsPair, Departures.IsWithout, Departures.AreDepartures}

-- there is one time that it takes without a ride, and one list of departures
abbrev pub DeparturesAreUnique : Type 0
DeparturesAreUnique = (n : NetworkLists) (q : Asked) (window : ℕ) (c d : Option ℕ) (one other : List Pair) → IsWithout n q c → IsWithout n q d
    → AreDepartures n q c window one → AreDepartures n q d window other → (c ≡ d) × (one ≡ other)

-- the time that it takes without a ride is the same from each moment on
abbrev pub WithoutIsTheSame : Type 0
WithoutIsTheSame = (n : NetworkLists) (q : Asked) (c : Option ℕ) (t : ℕ) → IsWithout n q c → IsWithout n (record q { depart = t }) c

-- ---- what a reader is told

-- the first pair that departs at t or later, of pairs by rising departures
abbrev pub first_from : ℕ → List Pair → Option Pair
first_from t [] = None
first_from t (p ∷ pairs) = if nat_le t p.depart then Some p else first_from t pairs

-- from t to u is no less time than it takes without a ride
abbrev pub IsAsLong : Option ℕ → ℕ → ℕ → Type 0
IsAsLong (Some c) t u = t + c ≤ u
IsAsLong None t u = ⊥

-- each journey with a ride that leaves after the window arrives later than u
abbrev pub IsBeforeOthers : NetworkLists → Asked → ℕ → ℕ → Type 0
IsBeforeOthers n q window u = (p : Pair) → IsPair n q p → q.depart + window ≤ p.depart → u < p.arrive

-- Who leaves at t is at the destination at u no earlier than by the first departure from t on, or than without a ride. Where there is no such departure,
-- that is so of whoever is there before all that leave after the window.
abbrev pub IsNoEarlier : NetworkLists → Asked → Option ℕ → ℕ → ℕ → ℕ → Option Pair → Type 0
IsNoEarlier n q without window t u (Some row) = (row.arrive ≤ u) ⊎ IsAsLong without t u
IsNoEarlier n q without window t u None = IsBeforeOthers n q window u → IsAsLong without t u

-- so of each journey that answers
abbrev pub DeparturesMissNothing : Type 0
DeparturesMissNothing = (n : NetworkLists) → KeepsRules n → (q : Asked) (without : Option ℕ) (window : ℕ) (pairs : List Pair) → IsWithout n q without
    → AreDepartures n q without window pairs → (k : Route) (u : ℕ) → Answers n q k u → IsNoEarlier n q without window k.at u (first_from k.at pairs)
