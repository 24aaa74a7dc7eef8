-- The earliest of some runs of a pattern.
use Rattle.std.specs.Prelude.{◌≡◌, ℕ, ◌<◌, ◌≤◌, ◌⊎◌, length, Option, Some, None}
use Rattle.timetable_arcs.specs.{Instance, TableLists, pattern_trip, arrives, departs, IsIn}

-- at each call of the pattern the run arrives and departs no later than the other
pub record IsNoLater (t : TableLists) (p : ℕ) (run other : Instance) : Type 0 where
  pub arrival : (call : ℕ) → call < length (pattern_trip t p).calls → arrives t run call ≤ arrives t other call
  pub departure : (call : ℕ) → call < length (pattern_trip t p).calls → departs t run call ≤ departs t other call

-- the run is one of these runs of the pattern, and no later than any of them
pub record IsEarliestOf (t : TableLists) (p : ℕ) (These : Instance → Type 0) (run : Instance) : Type 0 where
  pub is_in : IsIn t p run
  pub is : These run
  pub first : (other : Instance) → These other → IsNoLater t p run other

-- the earliest of them, if there is one
abbrev pub IsFirstOf : TableLists → ℕ → (Instance → Type 0) → Option Instance → Type 0
IsFirstOf t p These (Some run) = IsEarliestOf t p These run
IsFirstOf t p These None = (run : Instance) → These run → ⊥

-- it is boarded, or departs from the call at a time or later
abbrev pub IsBoardedOr : TableLists → ℕ → Option Instance → ℕ → ℕ → Instance → Type 0
IsBoardedOr t p boarded call since run = (boarded ≡ Some run) ⊎ (IsIn t p run × (since ≤ departs t run call))
