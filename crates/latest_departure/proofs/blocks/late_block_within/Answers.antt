use Rattle.plan_base.proofs.Common.{IfOk-weaker}
use Rattle.latest_departure.proofs.{LimitLemmas.late_refused, TextLemmas.refused_told}
use Rattle.latest_departure.proofs.blocks.late_block_within.Goals as goal

pub returns-in-Err : goal.returns-in-Err
returns-in-Err c =
    let n = c.args.backwards.now.network in
    let refusal = rw (c.in-Err.is, c.network-network.ensures) at c.read_query.ensures.fault in
    IfOk-weaker c.refused_block.result _ _
    (λ block told. late_refused n c.args.line.now block.items (refused_told n c.args.line.now c.in-Err.fault refusal block.items told) c.args.limit)
    (rw c.network-network.ensures at c.refused_block.ensures)
