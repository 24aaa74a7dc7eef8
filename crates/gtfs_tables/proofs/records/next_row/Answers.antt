use Rattle.gtfs_tables.proofs.CsvLemmas.{has_stepped}
use Rattle.gtfs_tables.proofs.records.next_row.Goals as goal

pub returns : goal.returns
returns c =
    let steps = c.next.ensures.steps c.requires.left c.requires.untrimmed in
    has_stepped c.args.records.now c.next.new.self c.requires c.next.result (steps.0 c.requires.ready) steps.3
