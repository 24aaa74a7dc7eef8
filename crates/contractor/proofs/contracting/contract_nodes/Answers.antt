use Rattle.plan_base.proofs.Common.{◌≡◌, ◌∙◌, ◌+◌, ◌-◌, List, Bool, Some, true, length, set, false, subst, ap, arith, slice_get, length_push}
use Rattle.contractor.specs.inside.{AreWaiting}
use Rattle.contractor.proofs.WaitingLemmas.{waiting_less}
use Rattle.contractor.proofs.contracting.contract_nodes.Goals as goal

pub nodes-preserved : goal.nodes-preserved
nodes-preserved g c =
    let inv = c.nodes.invariant in
    let e = c.in_ok-contract_node.ensures in
    let old = c.nodes.layer.order.items in
    let x = c.marked-x.result in
    let new = c.contract_node.new.layer.order.items in
    let one_more : length new ≡ length old + 1 = ap length e.order ∙ length_push old x in
    let at = subst (λ (bs : List Bool). slice_get bs x ≡ Some true) c.deref-in-nodes.ensures.value c.marked-x.ensures in
    let less : c.args.waiting.count - length old - 1 ≡ c.args.waiting.count - length new = omega (arith, one_more) in
    record {
      state = e.state;
      count = e.count ∙ inv.count;
      done = (let done = inv.done in let some = c.nodes-test.true in omega (arith, one_more));
      waiting = subst (λ k. AreWaiting c.args.network.now new k (set c.nodes.marks.items x false)) less
          (waiting_less c.args.network.now old new (c.args.waiting.count - length old) x c.nodes.marks.items at e.order inv.waiting);
    }
