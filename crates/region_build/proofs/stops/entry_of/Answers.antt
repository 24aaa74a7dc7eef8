use Rattle.region_build.proofs.IdLaws.{id_is_some, id_is_short}
use Rattle.region_build.proofs.stops.entry_of.Goals as goal

pub name_of_id-requires-clause-some : goal.name_of_id-requires-clause-some
name_of_id-requires-clause-some c = rw c.as_bytes.ensures (id_is_some c.args.stop.now.id c.requires)

pub name_of_id-requires-clause-short : goal.name_of_id-requires-clause-short
name_of_id-requires-clause-short c = rw c.as_bytes.ensures (id_is_short c.args.stop.now.id c.requires)
