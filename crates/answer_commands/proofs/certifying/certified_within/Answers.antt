use Rattle.plan_base.proofs.Common.{Bor, IfOk-weaker, option_map}
use Rattle.hierarchy.specs.declared.hierarchy.Hierarchy.{Hierarchy}
use Rattle.answer_commands.proofs.CertifyLemmas.{refused_within}
use Rattle.answer_commands.proofs.certifying.certified_within.Goals as goal

pub returns-in-Err : goal.returns-in-Err
returns-in-Err c =
    let h = option_map (λ (x : Bor Hierarchy). x.now) c.args.hierarchy in
    IfOk-weaker c.refused_block.result _ _ (λ text told. refused_within c.args.network.now h c.args.line.now text.items c.args.limit c.in-Err.fault c.in-Err.ensures.fault told.0 told.1) c.refused_block.ensures
