use Rattle.plan_base.proofs.Common.{on_ok_weaker}
use Rattle.product_search.proofs.FrontierLemmas.{rearranged, turned, turned_ready}
use Rattle.product_search.proofs.frontier.Frontier.next_lot.Goals as goal

pub returns-then-is_spent-clause-keeps : goal.returns-then-is_spent-clause-keeps
returns-then-is_spent-clause-keeps c = turned c.args.self.now c.next_lot.new.self c.requires.right c.in_ok-next_lot.ensures

pub returns-then-is_spent-clause-ready : goal.returns-then-is_spent-clause-ready
returns-then-is_spent-clause-ready c = turned_ready c.args.self.now c.next_lot.new.self c.requires.right c.in_ok-next_lot.ensures

pub returns-clause-keeps : goal.returns-clause-keeps
returns-clause-keeps c =
    let first = turned c.args.self.now c.next_lot.new.self c.requires.right c.in_ok-next_lot.ensures in
    let spread = rearranged c.args.self.now _ c.spread.new.self first c.in_ok-spread.ensures.keeps in
    on_ok_weaker c.next_lot-2.result
    (λ turns. rearranged c.args.self.now c.spread.new.self _ spread (turned c.spread.new.self c.next_lot-2.new.self spread.right turns)) c.next_lot-2.ensures

pub returns-clause-ready : goal.returns-clause-ready
returns-clause-ready c =
    on_ok_weaker c.next_lot-2.result (turned_ready c.spread.new.self c.next_lot-2.new.self c.in_ok-spread.ensures.keeps.right) c.next_lot-2.ensures
