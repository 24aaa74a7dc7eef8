use Rattle.plan_base.proofs.Common.{◌≡◌, ◌∙◌, ◌+◌, Bool, true, false, refl, ap}
use mir.Val.{bool_byte}
use Rattle.contractor.proofs.WaitingLemmas.{node_more, as_number}
use Rattle.contractor.proofs.contracting.free_nodes.Goals as goal

bit_is : (b : Bool) → bool_byte b ≡ as_number b
bit_is true = refl
bit_is false = refl

pub nodes-preserved : goal.nodes-preserved
nodes-preserved c =
    let inv = c.nodes.invariant in
    let p = node_more c.args.network.now c.nodes.v c.nodes.count (c.nodes.count + c.from-count.result) c.nodes.marks.items c.push.new.self.items c.is_free-free.result c.is_free-free.ensures.is c.is_free-free.ensures.free
    c.in_ok-push.ensures.items (ap (λ k. c.nodes.count + k) (c.from-count.ensures ∙ bit_is c.is_free-free.result)) inv.count inv.each inv.marked inv.free inv.few in
    record { count = p.0; each = p.1; marked = p.2; free = p.3; few = p.4 }
