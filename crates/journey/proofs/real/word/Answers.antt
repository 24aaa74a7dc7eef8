use Rattle.plan_base.proofs.Common.{IfOk-weaker}
use Rattle.journey.proofs.WalkLemmas.{word_spelt}
use Rattle.journey.proofs.real.word.Goals as goal

pub returns : goal.returns
returns c =
    IfOk-weaker c.word_of.result _ _ (λ word spelt. word_spelt c.args.network.now c.args.journey.now c.journey.inside.start c.journey.inside.at c.journey.inside.steps.items c.deref.result.now _
    c.journey.view_is c.deref.ensures.value spelt c.requires) c.word_of.ensures
