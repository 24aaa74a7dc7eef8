use Rattle.plan_base.proofs.Common.{◌≡◌, ℕ, ◌<◌, ◌≤◌, true, slice_index, slice_index_or}
use Rattle.timetable_arcs.specs.{no_call, pattern_trip}
use Rattle.sweeps.specs.{time_at}
use Rattle.rounds.proofs.asked.Asked.is_sooner.Given as goal

abbrev pub invariant-loop-place : goal.invariant-loop-place
invariant-loop-place g l = record {
  none : (board : ℕ) → board < l.place → (slice_index_or (pattern_trip l.self.rounds.now.timetable.now l.pattern).calls board no_call).board ≡ true
      → time_at l.before (slice_index l.line.items board) ≤ time_at l.delays (slice_index l.line.items board);
}
