use Rattle.plan_base.proofs.Common.{sym, subst, arith, common_steps, IfSome_then}
use Rattle.product_search.specs.{declared.frontier.Frontier.Frontier, inside.IsReady, inside.Rearranges}
use Rattle.product_search.proofs.{FrontierLemmas.rearranged_none, FrontierLemmas.given_item, FrontierLemmas.given_none, frontier.Frontier.next_item.Goals.then-is_spent+in_ok-next_lot, frontier.Frontier.next_item.Goals.else-is_spent}
use Rattle.product_search.proofs.frontier.Frontier.next_item.Goals as goal

ready : (c : goal.After-pop) → Rearranges c.args.self.now c.if-is_spent.self × IsReady c.if-is_spent.self
ready c =
    let P : Frontier → Type 0 = λ f. Rearranges c.args.self.now f × IsReady f in
    elim c.if-is_spent.branch [
      | then-is_spent+in_ok-next_lot w ↦ subst P (sym w.self-is) (w.in_ok-next_lot.ensures.keeps, w.in_ok-next_lot.ensures.ready)
      | else-is_spent w ↦ subst P (sym w.self-is)
          (rearranged_none c.args.self.now c.requires (λ e. grind (arith, common_steps, c.is_spent.ensures, w.if-is_spent.false, e)))
    ]

pub returns-clause-some : goal.returns-clause-some
returns-clause-some c =
    IfSome_then c.pop.result c.pop.ensures.some (given_item c.args.self.now c.if-is_spent.self c.pop.new.self (ready c).0 c.pop.ensures.right)

pub returns-clause-none : goal.returns-clause-none
returns-clause-none c =
    given_none c.args.self.now c.if-is_spent.self c.pop.new.self (ready c).0 c.pop.ensures.right c.pop.result (ready c).1 c.pop.ensures.none
