use Rattle.journey.proofs.WalkLemmas.{bad_not_taken, ends_at}
use Rattle.journey.proofs.real.ends.Goals as goal

pub unreachable-requires : goal.unreachable-requires
unreachable-requires c =
    bad_not_taken c.args.network.now c.keeps_rules.ensures.network c.args.journey.now.start c.args.journey.now.at c.args.journey.now.steps _ c.in_default.ensures c.requires.real

pub returns : goal.returns
returns c = ends_at c.args.network.now c.args.journey.now _ _ c.in-Ok.ensures
