use Rattle.plan_base.proofs.Common.{◌≡◌, ◌-◌, ◌≤◌, length}
use Rattle.contractor.specs.inside.{IsBridging}
use Rattle.contractor.proofs.bridging.bridge.Given as goal

abbrev pub invariant-starts : goal.invariant-starts
invariant-starts l = record {
  state : IsBridging l.network (l.crossing).node (l.crossing).ways.items l.place l.layer;
  inside : l.place ≤ length (l.crossing).ways.items;
  order : (l.layer).order.items ≡ (l.fn.layer).order.items;
  count : length (l.layer).rows.items ≡ length (l.fn.layer).rows.items;
}

abbrev pub decreases-starts : goal.decreases-starts
decreases-starts l = length (l.crossing).ways.items - l.place
