use Rattle.plan_base.proofs.Common.{◌∙◌, ap, Ok}
use Rattle.gtfs_tables.proofs.AgencyLemmas.{without_record}
use Rattle.gtfs_tables.proofs.agencies.check_agencies.Goals as goal

pub returns-clause-agencies : goal.returns-clause-agencies
returns-clause-agencies c = let read = c.in_ok-read_table.ensures.rows in record { are = read.are ∙ ap Ok (without_record read.all); few = tt }
