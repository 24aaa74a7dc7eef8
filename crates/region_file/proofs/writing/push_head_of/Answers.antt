use Rattle.plan_base.proofs.Common.{ap, ◌∙◌, ◌++◌}
use Rattle.region_file.proofs.PushLaws.{five}
use Rattle.region_file.proofs.writing.push_head_of.Goals as goal

pub returns : goal.returns
returns c =
    five _ _ _ _ _ _ _ _ _ _ _ (c.in_ok-extend_from_slice.ensures.items ∙ ap (λ m. c.args.out.now.items ++ m) c.magic_of.ensures) c.in_ok-push_u32.ensures c.in_ok-push_u32-2.ensures c.in_ok-push_counts.ensures c.in_ok-push_rule.ensures
