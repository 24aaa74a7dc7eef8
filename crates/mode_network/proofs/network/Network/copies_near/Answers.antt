use Rattle.plan_base.proofs.Common.{rules, w64, SFits, subst, to_z-of_z}
use Rattle.mode_network.specs.{AreExactly, IsRoadCopy}
use Rattle.mode_network.proofs.NearLemmas.{near_copies}
use Rattle.mode_network.proofs.network.Network.copies_near.Goals as goal

pub returns-then-mm-le-MOST_AWAY : goal.returns-then-mm-le-MOST_AWAY
returns-then-mm-le-MOST_AWAY c =
    let fits : SFits w64 c.in_ok-id.id = search rules in
    let copies = subst (λ id. AreExactly (IsRoadCopy c.args.self.now.roads id) c.copies_of_id.result) (to_z-of_z w64 c.in_ok-id.id fits) c.copies_of_id.ensures in
    near_copies _ _ _ _ c.in_ok-id.ensures c.if-mm-le-MOST_AWAY.true _ copies
