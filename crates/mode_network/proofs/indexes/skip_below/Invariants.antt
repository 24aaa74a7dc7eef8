use Rattle.plan_base.proofs.Common.{◌<◌, ◌≤◌, ◌-◌, length, AllWithin}
use Rattle.mode_network.proofs.indexes.skip_below.Given as goal

abbrev pub invariant-loop-place : goal.invariant-loop-place
invariant-loop-place l = record {
  within : l.place ≤ length l.arcs;
  below : AllWithin (λ arc. arc.from < l.v) l.arcs 0 l.place;
}

abbrev pub decreases-loop-place : goal.decreases-loop-place
decreases-loop-place l = length l.arcs - l.place
