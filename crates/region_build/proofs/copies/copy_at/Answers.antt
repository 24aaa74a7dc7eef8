use Rattle.region_build.proofs.IdLaws.{id_is_short, id_is_some}
use Rattle.region_build.proofs.copies.copy_at.Goals as goal

pub name_of_id-requires-clause-some : goal.name_of_id-requires-clause-some
name_of_id-requires-clause-some c = id_is_some c.args.source.now.id.now c.requires.id

pub name_of_id-requires-clause-short : goal.name_of_id-requires-clause-short
name_of_id-requires-clause-short c = id_is_short c.args.source.now.id.now c.requires.id
