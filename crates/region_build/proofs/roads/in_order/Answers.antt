use Rattle.plan_base.proofs.Common.{answers_always, rules}
use Rattle.region_build.proofs.roads.in_order.Goals as goal

pub returns : goal.returns
returns c = record {
  same = c.in_ok-sort_by_key.ensures.permutation;
  ascend = c.in_ok-sort_by_key.ensures.sorted (λ arc. (arc.from, arc.to)) (answers_always _ _ _ (λ f a r g called. search rules));
}
