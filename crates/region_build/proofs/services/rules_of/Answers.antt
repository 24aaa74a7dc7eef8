use Rattle.plan_base.proofs.Common.{◌<◌, length, arith, take_more}
use Rattle.region_build.proofs.ServiceLaws.{rule_of-push}
use Rattle.region_build.proofs.services.rules_of.Goals as goal

pub loop-service-preserved : goal.loop-service-preserved
loop-service-preserved c = λ id.
    let there : c.loop-service.service-index < length c.args.services.now = omega arith in
    let more = take_more c.args.services.now c.loop-service.service-index c.service-item.result there in
    rw (more, ← c.service-item.is, rule_of-push, ← c.loop-service.invariant id) (c.in_ok-note_rule.ensures id)
