use Rattle.plan_base.proofs.Common.{take, filter}
use Rattle.geo_length.specs.{ExtendsNearest}
use Rattle.geo_length.proofs.search.with_points.Given as goal

abbrev pub invariant-loop-point : goal.invariant-loop-point
invariant-loop-point g l = ExtendsNearest (filter (g.F.PointFilter.passes l.wanted) (take l.point-index l.points)) l.place l.within l.fn.best l.nearest
