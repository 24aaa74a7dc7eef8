use Rattle.plan_base.proofs.Common.{rules, map_from_collect, YieldsList-from_slice_split}
use Rattle.opl_reader.specs.{is_blank, at_blanks}
use Rattle.opl_reader.proofs.cuts.words.Goals as goal

pub returns : goal.returns
unfolding at_blanks
returns c = map_from_collect _ c.collect.ensures.ran (YieldsList-from_slice_split _ is_blank c.args.text.now c.split.ensures.rest c.split.ensures.done c.split.ensures.closure (search rules))
