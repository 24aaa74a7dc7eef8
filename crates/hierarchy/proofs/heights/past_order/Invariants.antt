use Rattle.plan_base.proofs.Common.{◌<◌, ◌≤◌, ◌^◌, take, All}
use Rattle.hierarchy.proofs.heights.past_order.Given as goal

abbrev pub invariant-loop-v : goal.invariant-loop-v
invariant-loop-v l = record {
  few : l.past ≤ 2 ^ 24;
  past : All (λ v. v < l.past) (take l.v-index l.order);
}
