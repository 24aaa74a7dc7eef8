use Rattle.plan_base.proofs.Common.{sym, ap, ◌∙◌, option_map}
use Rattle.gtfs_tables.specs.{MissingFile}
use Rattle.gtfs_tables.proofs.FeedLemmas.{absent_file}
use Rattle.gtfs_tables.proofs.feeds.read_feed.Goals as goal

pub returns-in-Some-clause-fault : goal.returns-in-Some-clause-fault
returns-in-Some-clause-fault c = absent_file c.args.caps.now c.args.files.now (MissingFile c.in-Some.file) (ap (option_map MissingFile) (sym c.first_absent.ensures ∙ c.in-Some.is))
