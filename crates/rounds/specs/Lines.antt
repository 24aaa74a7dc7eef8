-- The crossings along the patterns of a timetable.
use Rattle.std.specs.Prelude.{◌≡◌, ℕ, ◌<◌, List, length, All, Some, slice_get, slice_index, slice_index_or}
use Rattle.timetable_arcs.specs.{Call, TableLists, pattern_trip, no_call}
use Rattle.mode_network.specs.{NetworkLists.NetworkLists, stop_node}
pub use Rattle.rounds.specs.declared.lines.Line.{Line}

-- for each of these calls the place of a crossing, which is the node of its stop
pub record IsLine (n : NetworkLists) (crossings : List ℕ) (calls : List Call) (line : List ℕ) : Type 0 where
  pub each : length line ≡ length calls
  pub within : All (λ j. j < length crossings) line
  pub are : (k : ℕ) → k < length calls → slice_index crossings (slice_index line k) ≡ stop_node n (slice_index_or calls k no_call).stop

-- one for each pattern
pub record AreLines (n : NetworkLists) (t : TableLists) (crossings : List ℕ) (lines : List Line) : Type 0 where
  pub each : length lines ≡ length t.patterns
  pub are : (p : ℕ) (line : Line) → slice_get lines p ≡ Some line → IsLine n crossings (pattern_trip t p).calls line.crossings.items
