use Rattle.plan_base.proofs.Common.{◌∙◌, ap, sym, subst, filter, All-weaker, filter-append}
use Rattle.geo_length.specs.{IsInBounds, ComesLater, ExtendsNearest, bounds_of}
use Rattle.geo_length.proofs.{NearestLaws.passing_later, NearestLaws.takes_append, NearestLaws.takes_behind, TreeLaws.all_inside}
use Rattle.geo_length.proofs.search.+with_tree.Goals as goal

pub returns-then-is_passed_over : goal.returns-then-is_passed_over
returns-then-is_passed_over g t c =
    let later = rw c.bounds_of.ensures at c.is_passed_over.ensures in
    passing_later c.args.place c.args.within (g.F.PointFilter.passes c.args.wanted.now) c.args.points.now c.args.best
    (All-weaker (IsInBounds (bounds_of c.args.tree.now)) (ComesLater c.args.place c.args.within c.args.best) (later c.if-is_passed_over.true) c.args.points.now
    (all_inside c.args.tree.now c.args.points.now c.requires))

pub returns-then-least_mm : goal.returns-then-least_mm
returns-then-least_mm g t c =
    let passes = g.F.PointFilter.passes c.args.wanted.now in
    subst (λ points. ExtendsNearest points c.args.place c.args.within c.args.best c.with_tree.result)
    (sym (ap (filter passes) c.split_at.ensures.by_index.0 ∙ filter-append passes c.split_at.result.0.now c.split_at.result.1.now))
    (takes_append c.args.place c.args.within (filter passes c.split_at.result.0.now) (filter passes c.split_at.result.1.now) c.args.best c.with_tree-nearest.result c.with_tree.result c.with_tree-nearest.ensures c.with_tree.ensures)

pub returns-else-least_mm : goal.returns-else-least_mm
returns-else-least_mm g t c =
    let passes = g.F.PointFilter.passes c.args.wanted.now in
    subst (λ points. ExtendsNearest points c.args.place c.args.within c.args.best c.with_tree-else-least_mm.result)
    (sym (ap (filter passes) c.split_at.ensures.by_index.0 ∙ filter-append passes c.split_at.result.0.now c.split_at.result.1.now))
    (takes_behind c.args.place c.args.within (filter passes c.split_at.result.0.now) (filter passes c.split_at.result.1.now) c.args.best c.with_tree-nearest-else-least_mm.result c.with_tree-else-least_mm.result c.with_tree-nearest-else-least_mm.ensures c.with_tree-else-least_mm.ensures)
