-- The runs of a pattern that one can be in who is at some of its calls at given times, and when one arrives by them.
use Rattle.std.specs.Prelude.{◌≡◌, ℕ, ◌<◌, ◌≤◌, true, List, length, Option, Some, None, slice_index_or}
use Rattle.timetable_arcs.specs.{Instance, TableLists, pattern_trip, no_call, arrives, departs, IsIn}

-- one may board at the call, and is there before the run departs
pub record IsBoardedAt (t : TableLists) (p : ℕ) (reached : List (Option ℕ)) (call : ℕ) (run : Instance) : Type 0 where
  pub is_in : IsIn t p run
  pub may_board : (slice_index_or (pattern_trip t p).calls call no_call).board ≡ true
  pub since : ℕ
  pub there : slice_index_or reached call None ≡ Some since
  pub in_time : since ≤ departs t run call

-- one can be in the run as it comes to the call: it can be boarded at an earlier one
abbrev pub CanBeIn : TableLists → ℕ → List (Option ℕ) → ℕ → Instance → Type 0
CanBeIn t p reached call run = (board : ℕ) × (board < call) × IsBoardedAt t p reached board run

-- one may alight at the call, and the runs that one can be in arrive there at this time or later, one of them at this time
pub record IsFirstArrival (t : TableLists) (p : ℕ) (reached : List (Option ℕ)) (call time : ℕ) : Type 0 where
  pub may_alight : (slice_index_or (pattern_trip t p).calls call no_call).alight ≡ true
  pub run : Instance
  pub can_be_in : CanBeIn t p reached call run
  pub is : time ≡ arrives t run call
  pub first : (other : Instance) → CanBeIn t p reached call other → time ≤ arrives t other call

-- the same if there is one; else one may not alight at the call, or can be in no run
abbrev pub IsArrivalAt : TableLists → ℕ → List (Option ℕ) → ℕ → Option ℕ → Type 0
IsArrivalAt t p reached call (Some time) = IsFirstArrival t p reached call time
IsArrivalAt t p reached call None = (slice_index_or (pattern_trip t p).calls call no_call).alight ≡ true → (run : Instance) → CanBeIn t p reached call run → ⊥

-- one for each call of the pattern
pub record AreArrivalsAlong (t : TableLists) (p : ℕ) (reached arrivals : List (Option ℕ)) : Type 0 where
  pub each : length arrivals ≡ length (pattern_trip t p).calls
  pub are : (call : ℕ) → call < length arrivals → IsArrivalAt t p reached call (slice_index_or arrivals call None)
