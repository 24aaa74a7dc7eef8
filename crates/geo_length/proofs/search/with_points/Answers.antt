use Rattle.plan_base.proofs.Common.{◌<◌, ◌∷◌, ◌∙◌, [], length, take, ap, sym, subst, arith, filter, List, take_more, filter-append}
use Rattle.geo_length.specs.{ExtendsNearest, Point}
use Rattle.geo_length.proofs.NearestLaws.{takes_append}
use Rattle.geo_length.proofs.search.with_points.Goals as goal

pub loop-point-preserved : goal.loop-point-preserved
loop-point-preserved g c =
    let there : c.loop-point.point-index < length c.args.points.now = omega arith in
    let passes = g.F.PointFilter.passes c.args.wanted.now in
    let more = take_more c.args.points.now c.loop-point.point-index c.point-item.result there in
    let parts = ap (filter passes) more ∙ filter-append passes (take c.loop-point.point-index c.args.points.now) _ in
    subst (λ (points : List Point). ExtendsNearest points c.args.place c.args.within c.args.best c.with_point-nearest.result) (sym parts)
    (rw (← c.point-item.is) (takes_append c.args.place c.args.within (filter passes (take c.loop-point.point-index c.args.points.now)) (filter passes (c.point-item.result ∷ [])) _ _ _ c.loop-point.invariant c.with_point-nearest.ensures))
