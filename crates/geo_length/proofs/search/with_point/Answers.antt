use Rattle.plan_base.proofs.Common.{◌∙◌, [], ◌∷◌, sym, All-cons, All-nil}
use Rattle.geo_length.specs.{ComesLater}
use Rattle.geo_length.proofs.NearestLaws.{far_later, passing_later, takes_none, takes_point}
use Rattle.geo_length.proofs.search.with_point.Goals as goal

pub returns-then-is_past : goal.returns-then-is_past
returns-then-is_past g c =
    let later = ComesLater c.args.place c.args.within c.args.best in
    passing_later c.args.place c.args.within (g.F.PointFilter.passes c.args.wanted.now) (c.args.point.now ∷ []) c.args.best
    (All-cons later c.args.point.now [] (far_later c.args.place c.args.within c.args.best c.args.point.now (rw (← c.limit.ensures) (c.is_past.ensures c.if-is_past.true))) (All-nil later))

pub returns-then-passes : goal.returns-then-passes
returns-then-passes g c =
    rw (sym c.passes.ensures ∙ c.if-passes.true, c.nearer.ensures, c.length_mm.ensures.value) (takes_point c.args.place c.args.within c.args.best c.args.point.now)

pub returns-else-passes : goal.returns-else-passes
returns-else-passes g c = rw (sym c.passes.ensures ∙ c.if-passes.false) (takes_none c.args.place c.args.within c.args.best)
