use Rattle.plan_base.proofs.Common.{[], ◌<◌, filter, All-nil}
use Rattle.geo_length.specs.{Point, length_to}
use Rattle.geo_length.proofs.NearestLaws.{IsNearest-only}
use Rattle.geo_length.proofs.grid.Grid.nearest_of.Goals as goal

pub returns-clause-nearest : goal.returns-clause-nearest
returns-clause-nearest g c =
    rw (← c.self.view_is, ← c.deref.ensures.value) (c.with_tree.ensures.joined [] (All-nil (λ (point : Point). c.args.within < length_to c.args.place point)))

pub returns-clause-only : goal.returns-clause-only
returns-clause-only g c = λ other h.
    IsNearest-only c.args.place c.args.within (filter (g.F.PointFilter.passes c.args.wanted.now) c.args.self.now) other c.with_tree.result h (returns-clause-nearest g c)
