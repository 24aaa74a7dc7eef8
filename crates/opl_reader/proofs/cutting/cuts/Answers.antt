use Rattle.plan_base.proofs.Common.{rules, not, map_from_collect, YieldsList-from_slice_split}
use Rattle.opl_reader.specs.{is_seen_placed}
use Rattle.opl_reader.proofs.cutting.cuts.Goals as goal

pub returns : goal.returns
returns c = map_from_collect _ c.collect.ensures.ran (YieldsList-from_slice_split _ (λ id. not (is_seen_placed c.args.seen.now.entries id)) c.args.references.now c.split.ensures.rest c.split.ensures.done c.split.ensures.closure (search rules))
