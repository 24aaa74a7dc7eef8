use Rattle.plan_base.proofs.Common.{◌≡◌, ◌-◌, ◌≤◌, length, get_or}
use Rattle.witness.specs.inside.{IsSearch, NobodyBusy}
use Rattle.contractor.specs.{declared.way.Way.Way, inside.IsBridging}
use Rattle.contractor.proofs.bridging.bridge_from.Given as goal

abbrev pub invariant-ways : goal.invariant-ways
invariant-ways l = record {
  state : IsBridging l.network (l.crossing).node (l.crossing).ways.items l.k l.layer;
  after : l.fn.place ≤ l.k;
  inside : l.k ≤ l.end;
  search : IsSearch (l.layer).rows.items (l.workspace).most NobodyBusy l.workspace;
  start : (d : Way) → (l.workspace).start ≡ (get_or (l.crossing).ways.items l.fn.place d).from;
  most : (d : Way) → (l.workspace).most ≡ (get_or (l.crossing).ways.items (l.end - 1) d).sum;
  order : (l.layer).order.items ≡ (l.fn.layer).order.items;
  count : length (l.layer).rows.items ≡ length (l.fn.layer).rows.items;
}
