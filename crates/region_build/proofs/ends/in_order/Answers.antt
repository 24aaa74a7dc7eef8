use Rattle.plan_base.proofs.Common.{rules, of_calls, answers_always}
use Rattle.region_build.specs.{key_of_end}
use Rattle.region_build.proofs.ends.in_order.Goals as goal

pub returns-clause-ascend : goal.returns-clause-ascend
returns-clause-ascend c = c.in_ok-sort_by_key.ensures.sorted key_of_end (answers_always _ _ _ (λ f a r g called. search (rules, of_calls)))
