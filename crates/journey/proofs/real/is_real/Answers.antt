use Rattle.journey.proofs.WalkLemmas.{none_bad}
use Rattle.journey.proofs.real.is_real.Goals as goal

pub returns : goal.returns
returns c = none_bad c.args.network.now c.args.journey.now c.keeps_rules.ensures.network _ _ c.is_none.ensures c.first_bad.ensures
