use Rattle.plan_base.proofs.Common.{◌≡◌, ◌+◌, arith, length, get_or_default, ap, sym, subst, get_or}
use Rattle.rounds.proofs.LayerLemmas.{AreNodesBelow, height_at, node_more, node_passes}
use Rattle.rounds.proofs.core_layer.Cores.layer_nodes.Goals.{then-is_core_in+in_ok-push, else-is_core_in}
use Rattle.rounds.proofs.core_layer.Cores.layer_nodes.Goals as goal

pub loop-v-preserved : goal.loop-v-preserved
loop-v-preserved c =
    let n = c.args.self.now.network.now in
    let h = c.args.self.now.hierarchy.now in
    let order = c.args.self.now.core.now.order in
    let letter = c.args.letter in
    let i = c.loop-v.v-index in
    let nodes = c.loop-v.nodes.items in
    let below = c.loop-v.invariant.below in
    record {
      below = elim c.if-is_core_in.branch [
        | then-is_core_in+in_ok-push w ↦ (let core = c.requires in
            let many = ap length c.order-v-items.ensures in
            let v = get_or c.order-v-items.result.now i 0 in
            subst (λ xs. AreNodesBelow n h order letter (i + 1) xs.items) (sym w.nodes-is)
            (subst (AreNodesBelow n h order letter (i + 1)) (sym w.in_ok-push.ensures.items) (node_more n h order letter i nodes below v (c.is_core_in.ensures.yes w.if-is_core_in.true) (height_at core.network c.args.self.now.core.now core.sound i v (omega (arith, c.loop-v-test.true, many))
            (subst (λ xs. get_or xs i v ≡ v) c.order-v-items.ensures (get_or_default c.order-v-items.result.now i v 0 c.loop-v-test.true))))))
        | else-is_core_in w ↦ subst (λ xs. AreNodesBelow n h order letter (i + 1) xs.items) (sym w.nodes-is) (node_passes n h order letter i nodes below)
      ];
    }
