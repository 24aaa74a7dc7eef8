use Rattle.region_file.proofs.FrontLaws.{name_short}
use Rattle.region_file.proofs.writing.push_name.Goals as goal

pub push_counted-requires : goal.push_counted-requires
push_counted-requires c = name_short c.args.name.now c.requires
