use Rattle.plan_base.proofs.Common.{sym}
use Rattle.hierarchy_check.proofs.checking.first_broken.Goals as goal

pub check_ways-requires : goal.check_ways-requires
check_ways-requires c = rw c.in-Sound.is at c.in_ok-check_nodes.ensures c.args.h.now (sym c.order.ensures) (sym c.entries.ensures)

pub returns-in-Broken : goal.returns-in-Broken
returns-in-Broken c = rw c.in-Broken.is at c.in_ok-check_nodes.ensures c.args.h.now (sym c.order.ensures) (sym c.entries.ensures)
