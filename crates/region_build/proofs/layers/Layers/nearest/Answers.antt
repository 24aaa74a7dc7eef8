use Rattle.plan_base.proofs.Common.{sym, ap, ◌∙◌}
use Rattle.region_build.specs.inside.{nearest_of}
use Rattle.region_build.proofs.LayerLaws.{nearest_of_is}
use Rattle.region_build.proofs.layers.Layers.nearest.Goals as goal

pub returns-clause-value : goal.returns-clause-value
returns-clause-value c = sym (c.nearest.ensures.only _ (nearest_of_is c.layer.result.now c.args.place)) ∙ ap (λ points. nearest_of points c.args.place) c.layer.ensures
