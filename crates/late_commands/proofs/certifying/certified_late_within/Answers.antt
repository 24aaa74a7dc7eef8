use Rattle.plan_base.proofs.Common.{IfOk-weaker}
use Rattle.late_commands.proofs.CertifyLemmas.{refused_within}
use Rattle.late_commands.proofs.certifying.certified_late_within.Goals as goal

pub returns-in-Err : goal.returns-in-Err
returns-in-Err c =
    let same = c.network-network.ensures in
    IfOk-weaker c.refused_block.result _ _
    (λ text told. refused_within c.args.backwards.now.network c.args.line.now text.items c.args.limit c.in-Err.fault (rw same at c.in-Err.ensures.fault) told.0 told.1)
    (rw same at c.refused_block.ensures)
