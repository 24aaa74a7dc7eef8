use Rattle.plan_base.proofs.Common.{IfNone, IfOk-weaker, sym, subst}
use Rattle.cores.specs.inside.Parts.{AreRefused}
use Rattle.cores.proofs.CoreLemmas.{refused_for}
use Rattle.cores.proofs.building.network_of.Goals as goal

pub returns-in-Err-clause-none : goal.returns-in-Err-clause-none
returns-in-Err-clause-none c =
    IfOk-weaker c.refused.result _ _ (λ made (none, other). subst (λ o. IfNone o (AreRefused c.args.caps.now c.args.parts)) (sym none) (refused_for c.args.caps.now c.args.parts c.in-Err.fault other c.in-Err.ensures.fault))
    c.refused.ensures
