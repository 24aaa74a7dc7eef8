use Rattle.plan_base.proofs.Common.{◌∙◌, bytes_eq}
use Rattle.road_profile.proofs.Lists.{list_any-map}
use Rattle.road_profile.proofs.tags.is_among.Goals as goal

pub returns-in-Some : goal.returns-in-Some
returns-in-Some c =
    rw c.in-Some.is (c.is_one_of.ensures ∙ list_any-map (λ other. bytes_eq c.in-Some.value.now other) (λ word. word.now) c.args.words.now)
