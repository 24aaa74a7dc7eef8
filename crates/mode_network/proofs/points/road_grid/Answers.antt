use Rattle.plan_base.proofs.Common.{List, Ok, Err, Result, IfOk, IsPermutation}
use Rattle.geo_length.specs.{Point}
use Rattle.mode_network.specs.{road_points, HoldSame}
use Rattle.mode_network.proofs.NearLemmas.{permuted}
use Rattle.mode_network.proofs.points.road_grid.Goals as goal

grid_is : {E : Type 0} (xs ys : List Point) → HoldSame xs ys → (r : Result (List Point) E) → IfOk r (λ grid. IsPermutation xs grid) → IfOk r (λ grid. HoldSame grid ys)
grid_is xs ys same (Ok grid) moved = permuted xs ys grid moved same
grid_is xs ys same (Err e) h = tt

pub returns : goal.returns
returns c = grid_is c.in_ok-points.points.items (road_points c.args.roads.now) c.in_ok-points.ensures c.of.result c.of.ensures.points
