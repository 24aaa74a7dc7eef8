use Rattle.plan_base.proofs.Common.{rules, filter_same}
use Rattle.contractor.proofs.cutting.leave_out_node.Goals as goal

pub returns : goal.returns
returns c = filter_same _ _ _ (λ x b q k. search rules) _ _ c.retain.ensures.filtered
