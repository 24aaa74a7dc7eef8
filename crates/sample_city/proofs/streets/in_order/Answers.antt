use Rattle.plan_base.proofs.Common.{rules, answers_always}
use Rattle.sample_city.proofs.streets.in_order.Goals as goal

pub returns : goal.returns
returns c = record {
  same = c.in_ok-sort_by_key.ensures.permutation;
  ascend = c.in_ok-sort_by_key.ensures.sorted (λ arc. (arc.from, arc.to)) (answers_always _ _ _ (λ f a r g called. search rules));
}
