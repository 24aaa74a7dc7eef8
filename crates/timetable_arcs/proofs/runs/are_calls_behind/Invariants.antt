use Rattle.plan_base.proofs.Common.{◌<◌, ◌≤◌, ℕ, slice_index_or}
use Rattle.timetable_arcs.specs.{no_call}
use Rattle.timetable_arcs.proofs.runs.are_calls_behind.Given as goal

abbrev pub invariant-loop-k : goal.invariant-loop-k
invariant-loop-k l = record {
  departs_later : (j : ℕ) → j < l.k → (slice_index_or l.first j no_call).dep < (slice_index_or l.second j no_call).dep;
  arrives_no_earlier : (j : ℕ) → j < l.k → (slice_index_or l.first j no_call).arr ≤ (slice_index_or l.second j no_call).arr;
}
