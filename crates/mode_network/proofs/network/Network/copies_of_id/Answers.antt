use Rattle.plan_base.proofs.Common.{subst, w64, to_z-of_z}
use Rattle.mode_network.specs.{NetworkLists.NetworkLists, AreExactly, IsRoadCopy}
use Rattle.mode_network.proofs.network.Network.copies_of_id.Goals as goal

pub returns : goal.returns
returns c =
    let found = subst (λ id. AreExactly (IsRoadCopy c.deref.result.now id) c.road_copies.result) (to_z-of_z w64 c.args.id c.ranges.id) c.road_copies.ensures in
    subst (λ (n : NetworkLists). AreExactly (IsRoadCopy n.roads c.args.id) c.road_copies.result) c.self.view_is (rw (← c.deref.ensures.value) found)
