use Rattle.plan_base.proofs.Common.{rules}
use Rattle.plan_base.proofs.MoreRead.{read_more}
use Rattle.plan_base.proofs.reading.read_whole.Goals as goal

pub loop-bytes-preserved : goal.loop-bytes-preserved
loop-bytes-preserved g c = (
  search rules,
  search rules,
  rw c.in_ok-extend_from_slice.ensures.items (read_more _ _ c.args.name.now c.loop-bytes.bytes.items c.read.new.into c.in_ok-n.n (search rules) c.loop-bytes.invariant.0 c.loop-bytes.invariant.2 (search rules)),
)
