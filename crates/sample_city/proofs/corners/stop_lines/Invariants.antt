use Rattle.plan_base.proofs.Common.{◌≡◌, ◌<◌, ◌≤◌, length, take, filter, All}
use Rattle.sample_city.specs.{is_stop_line}
use Rattle.sample_city.proofs.corners.stop_lines.Given as goal

abbrev pub invariant-loop-line : goal.invariant-loop-line
invariant-loop-line l = record {
  among : l.stopped.items ≡ filter is_stop_line (take l.line-index l.line-items);
  below : All (λ line. line < 300) l.stopped.items;
  few : length l.stopped.items ≤ l.line-index;
}
