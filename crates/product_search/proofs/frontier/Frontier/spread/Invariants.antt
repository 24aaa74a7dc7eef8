use Rattle.plan_base.proofs.Common.{length}
use Rattle.product_search.proofs.FrontierLemmas.{HasSpread}
use Rattle.product_search.proofs.frontier.Frontier.spread.Given as goal

abbrev pub invariant-lot : goal.invariant-lot
invariant-lot l = HasSpread l.fn.self l.self l.lot.items

abbrev pub decreases-lot : goal.decreases-lot
decreases-lot l = length l.lot.items
