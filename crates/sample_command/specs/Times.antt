-- How long best journeys take.
use Rattle.std.specs.Prelude.{◌≡◌, ℕ, ◌-◌, ◌⊎◌, List, [], ◌∷◌, nat_eq, Bool, true, false, Option, Some, None, unwrap_or, is_some, option_map, count_by, sum_by, zip, is_none}
use Rattle.hierarchy.specs.{HierarchyLists}
use Rattle.mode_network.specs.{NetworkLists.NetworkLists, Route}
use Rattle.journey.specs.{QueryFault, IsRefused, Asked, Asks, HasNone, IsBest}

-- a best journey for the line arrives so long after the departure that is asked for, in milliseconds
pub record Takes (n : NetworkLists) (line : List ℕ) (ms : ℕ) : Type 0 where
  pub asked : Asked
  pub asks : Asks n line asked
  pub journey : Route
  pub best : IsBest n asked journey
  pub ms_is : ms ≡ best.arrival - asked.depart

-- how long; None where no journey answers the line
abbrev pub IsTravelTime : NetworkLists → List ℕ → Option ℕ → Type 0
IsTravelTime n line (Some ms) = Takes n line ms
IsTravelTime n line None = ((asked : Asked) × Asks n line asked × HasNone n asked) ⊎ ((fault : QueryFault) × IsRefused n line fault)

-- the times of these lines, in order
abbrev pub AreTimes : NetworkLists → List (List ℕ) → List (Option ℕ) → Type 0
AreTimes n [] [] = Unit {0}
AreTimes n [] (time ∷ times) = ⊥
AreTimes n (line ∷ lines) [] = ⊥
AreTimes n (line ∷ lines) (time ∷ times) = IsTravelTime n line time × AreTimes n lines times

-- how long a journey takes that was found with its arrival, if one was
abbrev pub time_from : ℕ → Option (ℕ × Route) → Option ℕ
time_from depart found = option_map (λ best. best.0 - depart) found

-- how many of a search's labels are counted: all where it was over a hierarchy, and else none
abbrev pub labels_counted : Option HierarchyLists → ℕ → ℕ
labels_counted (Some h) labels = labels
labels_counted None labels = 0

-- ---- counts of times

abbrev pub journeys : List (Option ℕ) → ℕ
journeys times = count_by is_some times

abbrev pub without : List (Option ℕ) → ℕ
without times = count_by is_none times

abbrev pub total_time : List (Option ℕ) → ℕ
total_time times = sum_by (λ time. unwrap_or time 0) times

abbrev pub is_same_time : Option ℕ → Option ℕ → Bool
is_same_time (Some a) (Some b) = nat_eq a b
is_same_time (Some a) None = false
is_same_time None (Some b) = false
is_same_time None None = true

abbrev pub equal : List (Option ℕ) → List (Option ℕ) → ℕ
equal times others = count_by (λ both. is_same_time both.0 both.1) (zip times others)
