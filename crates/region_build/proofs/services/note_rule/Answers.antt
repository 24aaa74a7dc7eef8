use Rattle.plan_base.proofs.Common.{◌≡◌, ◌∙◌, true, arith, is_none, hash_map_updates_str}
use Rattle.region_build.specs.inside.{at}
use Rattle.region_build.proofs.ServiceLaws.{nothing_kept, rule_comes}
use Rattle.region_build.proofs.services.note_rule.Goals as goal

pub returns-in_ok-insert : goal.returns-in_ok-insert
returns-in_ok-insert c = λ id.
    let test : is_none c.get.result ≡ true = grind arith in
    hash_map_updates_str c.as_bytes-id.result.now c.args.rules.now c.insert.new.self _ c.in_ok-insert.ensures.updates id
    ∙ rule_comes (at c.args.rules.now) c.args.service.now c.as_bytes-id.result.now c.as_bytes-id.ensures (nothing_kept c.get.result (at c.args.rules.now c.as_bytes-id.result.now) c.get.ensures.value test) id
