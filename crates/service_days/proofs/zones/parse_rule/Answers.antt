use Rattle.plan_base.proofs.Common.{sym, ap, ◌∙◌, if◌then◌else◌, None, option_map}
use Rattle.service_days.specs.{read_zone, zone_of}
use Rattle.service_days.proofs.Noons.{parsed_is}
use Rattle.service_days.proofs.zones.parse_rule.Goals as goal

pub returns : goal.returns
returns c =
    ap (option_map zone_of) c.ok.ensures.value ∙ parsed_is c.args.rule.now c.parse.result c.parse.ensures.succeeds c.parse.ensures.value
    ∙ ap (λ test. if test then read_zone c.args.rule.now else None) (sym c.if-not-is_rule_text.false ∙ c.is_rule_text.ensures)
