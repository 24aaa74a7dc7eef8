-- Rides from crossings, pattern by pattern.
use Rattle.std.specs.Prelude.{◌≡◌, ℕ, ◌+◌, ◌<◌, ◌≤◌, true, nat_lt, List, length, Option, Some, None, Vec, slice_get, slice_index, slice_index_or, if◌then◌else◌}
use Rattle.std.specs.declared.alloc.Global.{Global}
use Rattle.search_laws.specs.{HasMove, Way}
use Rattle.timetable_arcs.specs.{Instance, TableLists, pattern_trip, no_call, arrives, departs, IsIn}
use Rattle.sweeps.specs.{time_at}
use Rattle.rounds.specs.Lines.{Line}
use Rattle.rounds.specs.inside.{Rows.row_of, Rows.never, Rows.HaveShape, Asking.AskedMeaning, Walks.AreCrossingsReached, Visits.crossing_node, Visits.IsCrossedBy}

-- the line of the pattern p
abbrev pub IsLineOf : AskedMeaning → ℕ → Line → Type 0
IsLineOf a p line = slice_get a.rounds.lines.items p ≡ Some line

-- a run of the pattern may be ridden from one call to a later one
pub record IsRideAlong (t : TableLists) (p : ℕ) (run : Instance) (board alight : ℕ) : Type 0 where
  pub is_in : IsIn t p run
  pub later : board < alight
  pub within : alight < length (pattern_trip t p).calls
  pub may_board : (slice_index_or (pattern_trip t p).calls board no_call).board ≡ true
  pub may_alight : (slice_index_or (pattern_trip t p).calls alight no_call).alight ≡ true

-- who is at the crossings of a line after these delays is at this call before the run departs
abbrev pub IsCaught : AskedMeaning → List ℕ → List ℕ → Instance → ℕ → Type 0
IsCaught a line delays run board =
    (time_at delays (slice_index line board) < never) × (a.dep + time_at delays (slice_index line board) ≤ departs a.rounds.timetable.now run board)

-- rides along a pattern that are caught so lead, in the state that they are taken in, to crossings that are reached by then
abbrev pub IsRiddenAlong : AskedMeaning → List (Vec ℕ Global) → ℕ → ℕ → List ℕ → List ℕ → Type 0
IsRiddenAlong a rows q p line delays =
    (run : Instance) (board alight r : ℕ) → IsRideAlong a.rounds.timetable.now p run board alight → IsCaught a line delays run board
    → HasMove a.labels q (pattern_trip a.rounds.timetable.now p).letter r → IsCrossedBy a rows (crossing_node a (slice_index line alight)) r (arrives a.rounds.timetable.now run alight)

-- so do those along all patterns, in each state after the delays in its row of rides
abbrev pub AreRidden : AskedMeaning → List (Vec ℕ Global) → List (Vec ℕ Global) → Type 0
AreRidden a rows rides = (q p : ℕ) (line : Line) → q < a.labels.states → IsLineOf a p line → IsRiddenAlong a rows q p line.crossings.items (row_of rides q)

-- delays at crossings are reached, and rides were taken after those in rows of rides
pub record AreRiding (a : AskedMeaning) (rows rides : List (Vec ℕ Global)) : Type 0 where
  pub reached : AreCrossingsReached a rows
  pub shape : HaveShape a.labels.states (length a.rounds.crossings.items) rides
  pub ridden : AreRidden a rows rides

-- ---- one pass

-- so long after a departure, if that is not never
abbrev pub time_after : ℕ → ℕ → Option ℕ
time_after dep delay = if nat_lt delay never then Some (dep + delay) else None

-- an arrival at a crossing by this letter, as a way
abbrev pub arrival_way : AskedMeaning → ℕ → ℕ → ℕ → Way
arrival_way a letter crossing at = record { place = 0; arc = record { to = crossing_node a crossing; letter = Some letter }; at = at }
