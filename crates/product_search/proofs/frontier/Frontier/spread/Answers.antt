use Rattle.plan_base.proofs.Common.{◌∙◌, ◌++◌, ap, arith, common_steps, option_to_list}
use Rattle.product_search.proofs.FrontierLemmas.{spread_begins, spread_on, spread_ends}
use Rattle.product_search.proofs.frontier.Frontier.spread.Goals as goal

pub lot-init : goal.lot-init
lot-init c = spread_begins c.args.self.now c.narrow.new.self c.in_ok-lot.lot.items c.requires c.in_ok-lot.ensures

pub lot-preserved : goal.lot-preserved
lot-preserved c =
    spread_on c.args.self.now c.lot.self c.put_again.new.self c.lot.lot.items c.pop.new.self.items c.in-Some.item c.lot.invariant
    (c.pop.ensures.items ∙ ap (λ r. c.pop.new.self.items ++ option_to_list r) c.in-Some.is) c.in_ok-put_again.ensures

pub returns-clause-keeps : goal.returns-clause-keeps
returns-clause-keeps c = spread_ends c.args.self.now c.lot.self c.lot.lot.items (grind (arith, common_steps, c.pop.ensures.cases, c.in_default.is)) c.lot.invariant
