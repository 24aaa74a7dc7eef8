use Rattle.plan_base.proofs.Common.{◌≡◌, ℕ, All, sum_by}
use Rattle.timetable_arcs.specs.{Instance, plain_table, inside.AreLastPuts, inside.IsPattern, inside.sum_all, inside.runs_from}
use Rattle.timetable_arcs.proofs.patterns.sort_into_patterns.Given as goal

abbrev pub invariant-loop-day : goal.invariant-loop-day
invariant-loop-day l = record {
  are : All (IsPattern (plain_table l.bases l.trips)) l.patterns.items;
  each_once : (weight : Instance → ℕ) → sum_all weight l.patterns.items ≡ sum_by weight (runs_from l.day 0 l.trips);
  noted : AreLastPuts l.trips l.puts.items;
}
