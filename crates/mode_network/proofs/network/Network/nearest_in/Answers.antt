use Rattle.plan_base.proofs.Common.{subst}
use Rattle.mode_network.specs.{NetworkLists.NetworkLists, IsNearestIn}
use Rattle.mode_network.proofs.LayerLemmas.{nearest_in_layer}
use Rattle.mode_network.proofs.network.Network.nearest_in.Goals as goal

pub returns : goal.returns
returns c =
    subst (λ (n : NetworkLists). IsNearestIn n.roads c.args.mode c.args.place c.nearest_of.result) c.self.view_is
    (nearest_in_layer _ _ c.args.mode c.args.place c.nearest_of.result c.self.invariant.grid (rw (← c.deref.ensures.value) c.nearest_of.ensures.nearest))
