use Rattle.plan_base.proofs.Common.{◌<◌, ℕ, slice_index_or}
use Rattle.timetable_arcs.specs.{Call, IsAlike}
use Rattle.timetable_arcs.proofs.runs.are_alike.Given as goal

abbrev pub invariant-loop-k : goal.invariant-loop-k
invariant-loop-k l = (j : ℕ) (d : Call) → j < l.k → IsAlike (slice_index_or l.a.calls j d) (slice_index_or l.b.calls j d)
