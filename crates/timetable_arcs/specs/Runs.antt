-- What finds a run of a pattern answers.
use Rattle.std.specs.Prelude.{ℕ, ◌<◌, ◌≤◌, Option, Some, None}
use Rattle.timetable_arcs.specs.{declared.trips.Instance.Instance, Patterns.TableLists, Patterns.arrives, Patterns.departs, Patterns.IsIn}

-- of the runs of a pattern that depart at a call at a time or later, the one that departs first, if there is one
pub record IsFirstFrom (t : TableLists) (p call time : ℕ) (run : Instance) : Type 0 where
  pub is_in : IsIn t p run
  pub in_time : time ≤ departs t run call
  pub first : (other : Instance) → IsIn t p other → time ≤ departs t other call → departs t run call ≤ departs t other call

abbrev pub IsNextRun : TableLists → ℕ → ℕ → ℕ → Option Instance → Type 0
IsNextRun t p call time (Some run) = IsFirstFrom t p call time run
IsNextRun t p call time None = (run : Instance) → IsIn t p run → departs t run call < time

-- of the runs of a pattern that arrive at a call at a time or earlier, the one that departs last, if there is one
pub record IsLastBy (t : TableLists) (p call time : ℕ) (run : Instance) : Type 0 where
  pub is_in : IsIn t p run
  pub in_time : arrives t run call ≤ time
  pub last : (other : Instance) → IsIn t p other → arrives t other call ≤ time → departs t other call ≤ departs t run call

abbrev pub IsLastRun : TableLists → ℕ → ℕ → ℕ → Option Instance → Type 0
IsLastRun t p call time (Some run) = IsLastBy t p call time run
IsLastRun t p call time None = (run : Instance) → IsIn t p run → time < arrives t run call
