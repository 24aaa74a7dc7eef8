use Rattle.plan_base.proofs.Common.{rules, map_from_collect, YieldsList-from_slice_split}
use Rattle.opl_reader.specs.{is_byte, at_commas}
use Rattle.opl_reader.proofs.cuts.parts.Goals as goal

pub returns : goal.returns
unfolding at_commas
returns c = map_from_collect _ c.collect.ensures.ran (YieldsList-from_slice_split _ (is_byte 44) c.args.text.now c.split.ensures.rest c.split.ensures.done c.split.ensures.closure (search rules))
