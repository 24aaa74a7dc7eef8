use Rattle.plan_base.proofs.Common.{take}
use Rattle.matrix_commands.specs.{AreRowsOf, inside.lines_in}
use Rattle.matrix_commands.proofs.table.Table.rows_of.Given as goal

abbrev pub invariant-loop-k : goal.invariant-loop-k
invariant-loop-k l =
    AreRowsOf l.self.destinations.now.network.now l.self.asking.now.places (take l.k (lines_in l.self)) l.self.asking.now.date.now l.self.asking.now.time.now l.self.asking.now.expr.now l.from l.rows.items
