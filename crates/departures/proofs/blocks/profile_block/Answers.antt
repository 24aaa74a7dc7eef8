use Rattle.plan_base.proofs.Common.{inl, IfOk-weaker}
use Rattle.latest_departure.proofs.TextLemmas.{refused_told}
use Rattle.departures.proofs.blocks.profile_block.Goals as goal

pub returns-in-Err : goal.returns-in-Err
returns-in-Err c =
    let n = c.args.least.now.plain.network.now in
    let refusal = rw (c.in-Err.is, c.network-network.ensures) at c.read_query.ensures.fault in
    IfOk-weaker c.refused_block.result _ _ (λ block told. inl (refused_told n c.args.line.now c.in-Err.fault refusal block.items told)) (rw c.network-network.ensures at c.refused_block.ensures)
