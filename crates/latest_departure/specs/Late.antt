-- The latest departure for a deadline. Of a query line the date and the time are the deadline.
use Rattle.std.specs.Prelude.{◌≡◌, ℕ, ◌≤◌, List, Option, Some, None, slice_index}
use Rattle.mode_expression.specs.{IsWordOf}
use Rattle.mode_network.specs.{NetworkLists.NetworkLists, Route, IsJourney, IsCopy}
use Rattle.journey.specs.{BoardsOnTime, Asked}

abbrev pub deadline : Asked → ℕ
deadline q = q.depart

-- when the first date of a region begins: seven days stand before it
abbrev pub first_moment : NetworkLists → ℕ
first_moment n = slice_index n.days.bases 7

-- the journey is real, goes from a copy of the origin, not before the first date, to a copy of the destination, is there by the deadline, and the
-- expression denotes its word
pub record IsInTime (n : NetworkLists) (q : Asked) (j : Route) : Type 0 where
  pub end : ℕ
  pub arrival : ℕ
  pub word : List ℕ
  pub starts_at_copy : IsCopy n q.from j.start
  pub not_before : first_moment n ≤ j.at
  pub real : IsJourney n j end arrival word
  pub ends_at_copy : IsCopy n q.to end
  pub by_deadline : arrival ≤ deadline q
  pub denoted : IsWordOf q.form word

-- the journey is in time, and no journey that is starts later
pub record IsLatest (n : NetworkLists) (q : Asked) (j : Route) : Type 0 where
  pub in_time : IsInTime n q j
  pub latest : (k : Route) → IsInTime n q k → k.at ≤ j.at

-- the best journey for a deadline: no journey that is in time starts later, and of those that start then none arrives earlier
pub record IsBestLate (n : NetworkLists) (q : Asked) (j : Route) : Type 0 where
  pub latest : IsLatest n q j
  pub first : (k : Route) (other : IsInTime n q k) → k.at ≡ j.at → latest.in_time.arrival ≤ other.arrival

-- the journey that is told: the best one, each of whose rides is boarded when it departs
pub record IsToldLate (n : NetworkLists) (q : Asked) (j : Route) : Type 0 where
  pub best : IsBestLate n q j
  pub boarded : BoardsOnTime n j

-- no journey is in time
abbrev pub HasNoneInTime : NetworkLists → Asked → Type 0
HasNoneInTime n q = (k : Route) → IsInTime n q k → ⊥

-- no journey that is in time starts later than this one; or none is in time
abbrev pub IsLateResult : NetworkLists → Asked → Option Route → Type 0
IsLateResult n q (Some j) = IsLatest n q j
IsLateResult n q None = HasNoneInTime n q

-- the journey that is told, or that none is in time
abbrev pub IsToldResult : NetworkLists → Asked → Option Route → Type 0
IsToldResult n q (Some j) = IsToldLate n q j
IsToldResult n q None = HasNoneInTime n q
