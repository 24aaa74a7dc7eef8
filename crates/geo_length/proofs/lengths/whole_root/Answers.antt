use Rattle.geo_length.proofs.RootLaws.{root_only}
use Rattle.geo_length.proofs.lengths.whole_root.Goals as goal

pub returns-then-square-clause-value : goal.returns-then-square-clause-value
returns-then-square-clause-value c = root_only _ _ c.isqrt.ensures.square_le c.isqrt.ensures.next_square_gt

pub returns-else-square-clause-value : goal.returns-else-square-clause-value
returns-else-square-clause-value c = root_only _ _ c.isqrt-else-square.ensures.square_le c.isqrt-else-square.ensures.next_square_gt
