use Rattle.plan_base.proofs.Common.{◌≡◌, ℕ, ◌+◌, take, All, sum_by}
use Rattle.timetable_arcs.specs.{Instance, plain_table, inside.AreLastPuts, inside.IsPattern, inside.sum_all, inside.weight_on}
use Rattle.timetable_arcs.proofs.patterns.put_day.Given as goal

abbrev pub invariant-loop-trip : goal.invariant-loop-trip
invariant-loop-trip l = record {
  are : All (IsPattern (plain_table l.given.bases.now l.given.trips.now)) l.patterns.items;
  day : (weight : Instance → ℕ) → sum_all weight l.patterns.items ≡ sum_all weight l.initial.patterns.items + sum_by (weight_on weight l.given.trips.now l.fn.day) (take l.trip-index l.order);
  noted : AreLastPuts l.given.trips.now l.puts.items;
}
