use Rattle.plan_base.proofs.Common.{rules, answers_always}
use Rattle.region_build.proofs.switches.in_order.Goals as goal

pub returns-clause-ascend : goal.returns-clause-ascend
returns-clause-ascend c = c.in_ok-sort_by_key.ensures.sorted (λ node. node.id) (answers_always _ _ _ (λ f a r g called. search rules))
