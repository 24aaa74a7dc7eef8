use Rattle.plan_base.proofs.Common.{◌<◌, ◌≤◌, ℕ}
use Rattle.timetable_arcs.specs.{plain_table, arrives, departs}
use Rattle.timetable_arcs.proofs.runs.is_behind_over_days.Given as goal

abbrev pub invariant-loop-k : goal.invariant-loop-k
invariant-loop-k l = record {
  departs_later : (j : ℕ) → j < l.k → departs (plain_table l.bases l.trips) l.fn.first j < departs (plain_table l.bases l.trips) l.fn.second j;
  arrives_no_earlier : (j : ℕ) → j < l.k → arrives (plain_table l.bases l.trips) l.fn.first j ≤ arrives (plain_table l.bases l.trips) l.fn.second j;
}
