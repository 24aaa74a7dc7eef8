use Rattle.plan_base.proofs.Common.{rules, w64, SFits, ◌∙◌, to_z-of_z}
use Rattle.mode_network.proofs.LayerLemmas.{passes_found, passes_missing}
use Rattle.mode_network.proofs.layers.LayerPointFilter.passes.Goals as goal

pub returns-in-Some : goal.returns-in-Some
returns-in-Some c =
    let layer = c.args.self.now in
    let fits : SFits w64 c.args.point.now.0 = search rules in
    let found = rw (to_z-of_z w64 c.args.point.now.0 fits) at c.in-Some.ensures.found in
    let only = rw (to_z-of_z w64 c.args.point.now.0 fits) at c.in-Some.ensures.only in
    c.eq.ensures ∙ rw (← c.index-self-v.is) (passes_found layer.roads.now layer.kept.are layer.mode c.args.point.now c.in-Some.v c.index-self-v.result c.index-self-v.is found only)

pub returns-in-None : goal.returns-in-None
returns-in-None c =
    let layer = c.args.self.now in
    let fits : SFits w64 c.args.point.now.0 = search rules in
    let only = rw (to_z-of_z w64 c.args.point.now.0 fits) at c.in-None.ensures.only in
    passes_missing layer.roads.now layer.kept.are layer.mode c.args.point.now only
