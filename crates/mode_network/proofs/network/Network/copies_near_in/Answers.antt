use Rattle.plan_base.proofs.Common.{rules, w64, SFits, subst, to_z-of_z}
use Rattle.mode_network.specs.{AreExactly, IsCopyIn}
use Rattle.mode_network.proofs.LayerLemmas.{near_copy_in}
use Rattle.mode_network.proofs.network.Network.copies_near_in.Goals as goal

pub returns-then-mm-le-MOST_AWAY : goal.returns-then-mm-le-MOST_AWAY
returns-then-mm-le-MOST_AWAY c =
    let fits : SFits w64 c.in_ok-id.id = search rules in
    let copies = subst (λ id. AreExactly (IsCopyIn c.args.self.now.roads c.args.mode id) c.copy_in.result) (to_z-of_z w64 c.in_ok-id.id fits) c.copy_in.ensures in
    near_copy_in _ _ _ _ _ c.in_ok-id.ensures c.if-mm-le-MOST_AWAY.true _ copies
