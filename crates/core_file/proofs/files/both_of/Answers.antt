use Rattle.plan_base.proofs.Common.{length, arith}
use Rattle.core_file.proofs.FileLaws.{refused_within, placed_more}
use Rattle.core_file.proofs.files.both_of.Goals as goal

pub behind-requires : goal.behind-requires
behind-requires c = placed_more (length c.args.first.now) _ c.in-Err.fault (omega (arith, c.requires)) (refused_within c.args.first.now c.in-Err.fault c.in-Err.ensures.none)
