use Rattle.plan_base.proofs.Common.{◌≡◌, range_with_len}
use Rattle.timetable_arcs.proofs.sorting.places_below.Given as goal

abbrev pub invariant-loop-place : goal.invariant-loop-place
invariant-loop-place l = l.places.items ≡ range_with_len 0 l.place
