use Rattle.plan_base.proofs.Common.{length}
use Rattle.geo_length.proofs.tree.+tree_of.Given as goal

abbrev pub decreases-tree_of : goal.decreases-tree_of
decreases-tree_of l = length l.points.now
