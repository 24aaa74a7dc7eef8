use Rattle.csv.specs.Records.{fields_of}
use Rattle.gtfs_tables.specs.inside.{AreFound}
use Rattle.gtfs_tables.proofs.header.find.Given as goal

abbrev pub invariant-loop-column : goal.invariant-loop-column
invariant-loop-column l = AreFound (fields_of l.header) l.initial.found.items → AreFound (fields_of l.header) l.found.items
