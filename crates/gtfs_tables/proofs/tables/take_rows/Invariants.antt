use Rattle.plan_base.proofs.Common.{◌≡◌, length}
use Rattle.gtfs_tables.specs.inside.{IsOnTheWay}
use Rattle.gtfs_tables.proofs.tables.take_rows.Given as goal

abbrev pub invariant-loop-fields : goal.invariant-loop-fields
invariant-loop-fields g l = record {
  same : g.T.TakesRows.table l.table ≡ g.T.TakesRows.table l.initial.table;
  way : IsOnTheWay (g.T.TakesRows.table l.initial.table) l.header l.initial.rows l.rows l.number (g.T.TakesRows.keeps l.table);
}

abbrev pub decreases-loop-fields : goal.decreases-loop-fields
decreases-loop-fields g l = length l.rows
