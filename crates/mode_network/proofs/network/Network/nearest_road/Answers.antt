use Rattle.plan_base.proofs.Common.{◌^◌, ◌-◌, subst}
use Rattle.mode_network.specs.{NetworkLists.NetworkLists, IsNearestRoad}
use Rattle.mode_network.proofs.NearLemmas.{nearest_found, same_nearest}
use Rattle.mode_network.proofs.network.Network.nearest_road.Goals as goal

pub returns : goal.returns
returns c =
    subst (λ (n : NetworkLists). IsNearestRoad n.roads c.args.place c.nearest.result) c.self.view_is
    (nearest_found _ c.args.place _ (same_nearest _ _ c.self.invariant.grid c.args.place (2 ^ 64 - 1) c.nearest.result c.nearest.ensures.nearest))
