use Rattle.plan_base.proofs.Common.{rules, w64, SFits, ◌∙◌, to_z-of_z}
use Rattle.region_build.proofs.KeyLaws.{first_sight, seen_before}
use Rattle.region_build.proofs.ends.put_once.Goals as goal

pub returns-in_ok-push-clause-seen : goal.returns-in_ok-push-clause-seen
returns-in_ok-push-clause-seen c =
    let fits : SFits w64 c.args.end.0 = search rules in
    let added = rw (to_z-of_z w64 c.args.end.0 fits) at c.in_ok-insert.ensures.added in
    c.in_ok-push.ensures.items ∙ first_sight c.args.seen.now.items c.args.keys.now.keys c.args.end c.number.result _ c.requires c.number.ensures added c.if-branch.true

pub returns-else-branch-clause-seen : goal.returns-else-branch-clause-seen
returns-else-branch-clause-seen c =
    let fits : SFits w64 c.args.end.0 = search rules in
    let added = rw (to_z-of_z w64 c.args.end.0 fits) at c.in_ok-insert.ensures.added in
    seen_before c.args.seen.now.items c.args.keys.now.keys c.args.end c.number.result _ c.requires c.number.ensures added c.if-branch.false
