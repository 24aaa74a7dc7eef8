use Rattle.plan_base.proofs.Common.{◌≡◌, drop}
use Rattle.csv.specs.Records.{fields_of}
use Rattle.gtfs_tables.specs.{first_missing}
use Rattle.gtfs_tables.proofs.columns.first_missing.Given as goal

abbrev pub invariant-loop-column : goal.invariant-loop-column
invariant-loop-column l = first_missing (fields_of l.header) l.columns ≡ first_missing (fields_of l.header) (drop l.column-index l.columns)
