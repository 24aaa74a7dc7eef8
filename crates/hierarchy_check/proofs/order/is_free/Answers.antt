use Rattle.plan_base.proofs.Common.{sym, ◌∙◌}
use Rattle.hierarchy_check.proofs.OrderLemmas.{free_iff}
use Rattle.hierarchy_check.proofs.order.is_free.Goals as goal

pub returns-in-Some : goal.returns-in-Some
returns-in-Some c = free_iff c.args.network.now c.args.x c.in-Some.field-0 (sym c.mode.ensures ∙ c.in-Some.is) c.has_link.result c.has_link.ensures
