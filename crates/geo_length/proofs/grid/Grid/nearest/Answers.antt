use Rattle.geo_length.proofs.NearestLaws.{IsNearest-only, all_pass}
use Rattle.geo_length.proofs.grid.Grid.nearest.Goals as goal

pub returns-clause-nearest : goal.returns-clause-nearest
returns-clause-nearest c = rw all_pass at c.nearest_of.ensures.nearest

pub returns-clause-only : goal.returns-clause-only
returns-clause-only c = λ other h.
    IsNearest-only c.args.place c.args.within c.args.self.now other c.nearest_of.result h (returns-clause-nearest c)
