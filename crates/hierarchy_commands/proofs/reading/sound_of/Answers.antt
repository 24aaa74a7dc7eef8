use Rattle.plan_base.proofs.Common.{sym}
use Rattle.hierarchy_commands.proofs.reading.sound_of.Goals as goal

pub joined-requires : goal.joined-requires
joined-requires g c = rw c.in-Sound.is at c.in_ok-check_nodes.ensures c.args.lists (sym c.order.ensures) (sym c.entries.ensures)

pub returns-in-Broken-clause-err : goal.returns-in-Broken-clause-err
returns-in-Broken-clause-err g c = rw c.in-Broken.is at c.in_ok-check_nodes.ensures c.args.lists (sym c.order.ensures) (sym c.entries.ensures)
