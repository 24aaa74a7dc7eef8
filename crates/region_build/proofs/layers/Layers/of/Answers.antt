use Rattle.region_build.proofs.LayerLaws.{finds_nearest}
use Rattle.region_build.proofs.layers.Layers.of.Goals as goal

pub returns : goal.returns
returns c = finds_nearest c.args.roads.now _ _ _ c.in_ok-foot.ensures c.in_ok-bike.ensures c.in_ok-car.ensures
