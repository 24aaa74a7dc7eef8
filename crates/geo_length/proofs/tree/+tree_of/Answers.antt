use Rattle.geo_length.proofs.TreeLaws.{halves_inside}
use Rattle.geo_length.proofs.tree.+tree_of.Goals as goal

pub returns : goal.returns
returns t c =
    let left = c.in_ok-left.ensures in
    let right = c.in_ok-right.ensures in (
      halves_inside c.args.points.now c.split_at.result.0.now c.split_at.result.1.now c.in_ok-left.left c.in_ok-right.right c.around-bounds.result c.split_at.ensures.by_index.0 left right
          (rw (← c.bounds_of.ensures) c.around-bounds.ensures.kept) (rw (← c.bounds_of-2.ensures) c.around-bounds.ensures.other),
      rw (c.in_ok-left-2.ensures.ok, ← c.split_at.ensures.front) left,
      rw (c.in_ok-right-2.ensures.ok, ← c.split_at.ensures.back) right,
    )
