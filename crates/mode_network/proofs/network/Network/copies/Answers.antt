use Rattle.plan_base.proofs.Common.{rules, w64, SFits, subst, to_z-of_z}
use Rattle.mode_network.specs.{AreExactly, IsRoadCopy}
use Rattle.mode_network.proofs.network.Network.copies.Goals as goal

pub returns-in-Road : goal.returns-in-Road
returns-in-Road c =
    let fits : SFits w64 c.in-Road.id = search rules in
    rw c.in-Road.is (subst (λ id. AreExactly (IsRoadCopy c.args.self.now.roads id) c.copies_of_id.result) (to_z-of_z w64 c.in-Road.id fits) c.copies_of_id.ensures)

pub returns-in-Stop : goal.returns-in-Stop
returns-in-Stop c = rw c.in-Stop.is (rw (← c.as_slice.ensures) c.copies_of_name.ensures)
