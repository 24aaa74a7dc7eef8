use Rattle.plan_base.proofs.Common.{◌≡◌, ℕ, ◌<◌, None, length, slice_index_or}
use Rattle.ride_passes.specs.{CanBeIn, IsArrivalAt, inside.IsFirstOf}
use Rattle.ride_passes.proofs.pass.arrivals_along.Given as goal

abbrev pub invariant-loop-place : goal.invariant-loop-place
invariant-loop-place l = record {
  each : length l.arrivals.items ≡ l.place;
  are : (call : ℕ) → call < l.place → IsArrivalAt l.timetable l.pattern l.reached call (slice_index_or l.arrivals.items call None);
  boarded : IsFirstOf l.timetable l.pattern (CanBeIn l.timetable l.pattern l.reached l.place) l.boarded;
}
