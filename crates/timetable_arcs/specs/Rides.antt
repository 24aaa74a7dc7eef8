-- The rides that begin at a stop.
use Rattle.std.specs.Prelude.{◌≡◌, ℕ, ◌+◌, ◌<◌, true, slice_index_or, ◌&&◌, ◌==◌, List, [], ◌∷◌, ◌++◌, length, map, if◌then◌else◌}
use Rattle.timetable_arcs.specs.{declared.trips.Call.Call, declared.trips.Instance.Instance, Patterns.TableLists, Patterns.pattern_trip, Patterns.no_call}
pub use Rattle.timetable_arcs.specs.{declared.rides.Board.Board, declared.rides.Ride.Ride}

-- the places of the calls at which one may alight, counted from k
abbrev pub alights : ℕ → List Call → List ℕ
alights k [] = []
alights k (call ∷ calls) = if call.alight then k ∷ alights (k + 1) calls else alights (k + 1) calls

-- a ride along a pattern from one of its calls at the stop, at which one may board, to a later one at which one may alight
pub record IsRideAt (t : TableLists) (stop : ℕ) (ride : Ride) : Type 0 where
  pub pattern : ride.pattern < length t.patterns
  pub later : ride.board < ride.alight
  pub within : ride.alight < length (pattern_trip t ride.pattern).calls
  pub at_stop : (slice_index_or (pattern_trip t ride.pattern).calls ride.board no_call).stop ≡ stop
  pub boards : (slice_index_or (pattern_trip t ride.pattern).calls ride.board no_call).board ≡ true
  pub alights : (slice_index_or (pattern_trip t ride.pattern).calls ride.alight no_call).alight ≡ true

-- the rides along a pattern from each of its calls at the stop at which one may board, to each later one at which one may alight
abbrev pub rides_along : ℕ → ℕ → ℕ → List Call → List Ride
rides_along p stop k [] = []
rides_along p stop k (call ∷ calls) =
    if (call.stop == stop) && call.board
    then map (λ alight. record { pattern = p; board = k; alight = alight }) (alights (k + 1) calls) ++ rides_along p stop (k + 1) calls
    else rides_along p stop (k + 1) calls

-- the rides that begin at a stop: pattern by pattern, from p on, so many of them
abbrev pub rides_from : TableLists → ℕ → ℕ → List (List Instance) → List Ride
rides_from t stop p [] = []
rides_from t stop p (runs ∷ patterns) = rides_along p stop 0 (pattern_trip t p).calls ++ rides_from t stop (p + 1) patterns

abbrev pub rides_at : TableLists → ℕ → List Ride
rides_at t stop = rides_from t stop 0 t.patterns

-- the calls of a pattern at the stop at which one may board, each with the number of rides before it, of which there are n before the first
abbrev pub boards_along : ℕ → ℕ → ℕ → ℕ → List Call → List Board
boards_along p stop n k [] = []
boards_along p stop n k (call ∷ calls) =
    if (call.stop == stop) && call.board
    then record { pattern = p; call = k; before = n } ∷ boards_along p stop (n + length (alights (k + 1) calls)) (k + 1) calls
    else boards_along p stop n (k + 1) calls

abbrev pub boards_from : TableLists → ℕ → ℕ → ℕ → List (List Instance) → List Board
boards_from t stop n p [] = []
boards_from t stop n p (runs ∷ patterns) =
    boards_along p stop n 0 (pattern_trip t p).calls
    ++ boards_from t stop (n + length (rides_along p stop 0 (pattern_trip t p).calls)) (p + 1) patterns

abbrev pub boards_at : TableLists → ℕ → List Board
boards_at t stop = boards_from t stop 0 0 t.patterns
