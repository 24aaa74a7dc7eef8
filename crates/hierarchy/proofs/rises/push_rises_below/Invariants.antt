use Rattle.plan_base.proofs.Common.{◌≡◌, ◌≤◌, ◌-◌, length}
use Rattle.mode_network.specs.{count_below}
use Rattle.hierarchy.specs.{from_of, places_before, is_rise}
use Rattle.hierarchy.proofs.rises.push_rises_below.Given as goal

abbrev pub invariant-loop-place : goal.invariant-loop-place
invariant-loop-place l = record {
  place : l.place ≤ count_below from_of l.entries l.v;
  rises : l.rises.items ≡ places_before (is_rise l.heights.order.now) l.entries l.place;
}

abbrev pub decreases-loop-place : goal.decreases-loop-place
decreases-loop-place l = length l.entries - l.place
