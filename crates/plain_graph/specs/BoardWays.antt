-- The arcs out of a stop that can be taken at a time, board by board.
use Rattle.std.specs.Prelude.{ℕ, ◌+◌, ◌*◌, List, [], ◌∷◌, Option, Some, None, drop, slice_index, slice_index_or, if◌then◌else◌, flat_map}
use Rattle.search_laws.specs.{RunRides, is_open, Way}
use Rattle.timetable_arcs.specs.{Call, Instance, Board, TableLists, trip_at, runs_of, pattern_trip, no_run, next_run, arrives, alights}
use Rattle.mode_network.specs.{NetworkLists.NetworkLists, stop_node}
use Rattle.plain_graph.specs.PlainArcs.{pattern_call}

-- the ride of a run to a call, as the arc at a place
abbrev pub ride_way : NetworkLists → TableLists → ℕ → Instance → ℕ → ℕ → Way
ride_way n t p run place alight = record {
  place = place;
  arc = record { to = stop_node n (pattern_call t p alight).stop; letter = Some (pattern_trip t p).letter };
  at = arrives t run alight;
}

-- its rides to each of some calls, as the arcs at this place and the next ones
abbrev pub ride_ways : NetworkLists → TableLists → ℕ → Instance → ℕ → List ℕ → List Way
ride_ways n t p run place [] = []
ride_ways n t p run place (alight ∷ alights) = ride_way n t p run place alight ∷ ride_ways n t p run (place + 1) alights

-- the rides of a run from a board to each later call at which one may alight
abbrev pub run_ways : NetworkLists → TableLists → ℕ → Board → Option Instance → List Way
run_ways n t place board None = []
run_ways n t place board (Some run) = ride_ways n t board.pattern run place (alights (board.call + 1) (drop (board.call + 1) (pattern_trip t board.pattern).calls))

-- the run that one boards at a time: the next one, if the letter of its pattern is in the set
abbrev pub open_run : TableLists → ℕ → ℕ → Board → Option Instance
open_run t time letters board = if is_open letters (Some (pattern_trip t board.pattern).letter) then next_run t board.pattern board.call time else None

-- its rides
abbrev pub board_ways : NetworkLists → TableLists → ℕ → ℕ → ℕ → Board → List Way
board_ways n t time letters place board = run_ways n t place board (open_run t time letters board)

-- those of all boards, where the first ride of the stop is at the place first
abbrev pub boards_ways : NetworkLists → TableLists → ℕ → ℕ → ℕ → List Board → List Way
boards_ways n t time letters first boards = flat_map (λ (board : Board). board_ways n t time letters (first + board.before) board) boards

-- ---- by the calls of one run

-- the ride to a call of a run, as the arc at a place
abbrev pub call_way : NetworkLists → ℕ → ℕ → ℕ → Call → Way
call_way n base letter place call = record {
  place = place;
  arc = record { to = stop_node n call.stop; letter = Some letter };
  at = base + 1000 * call.arr;
}

-- the rides to those of some calls at which one may alight
abbrev pub call_ways : NetworkLists → ℕ → ℕ → ℕ → List Call → List Way
call_ways n base letter place [] = []
call_ways n base letter place (call ∷ calls) =
    if call.alight then call_way n base letter place call ∷ call_ways n base letter (place + 1) calls else call_ways n base letter place calls

-- the rides from a board to each later one of these calls of a run on a day at which one may alight
abbrev pub day_ways : NetworkLists → TableLists → Board → ℕ → ℕ → List Call → List Way
day_ways n t board day place calls = call_ways n (slice_index t.bases day) (pattern_trip t board.pattern).letter place (drop (board.call + 1) calls)

-- the rides of a run to each call behind one at which one may alight, wherever they stand
abbrev pub rides_behind : NetworkLists → TableLists → Instance → ℕ → List Way
rides_behind n t run call = call_ways n (slice_index t.bases run.day) (trip_at t run.trip).letter 0 (drop (call + 1) (trip_at t run.trip).calls)

-- the same by the place of the run in its pattern, which is its line
abbrev pub plain_rides : NetworkLists → TableLists → RunRides
plain_rides n t p place call = rides_behind n t (slice_index_or (runs_of t p) place no_run) call
