use Rattle.plan_base.proofs.Common.{IsPermutation-sym}
use Rattle.geo_length.proofs.NearestLaws.{IsNearest-permutation}
use Rattle.geo_length.proofs.grid.Grid.of.Goals as goal

pub returns-clause-nearest : goal.returns-clause-nearest
returns-clause-nearest c = λ place within best h. IsNearest-permutation place within _ _ best (IsPermutation-sym _ _ c.sort_unstable_by_key.ensures.permutation) h
