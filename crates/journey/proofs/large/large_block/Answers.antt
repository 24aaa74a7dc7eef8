use Rattle.plan_base.proofs.Common.{◌∙◌, ap}
use Rattle.journey.specs.{block_text}
use Rattle.journey.proofs.large.large_block.Goals as goal

pub returns : goal.returns
returns c =
    let told = c.in_ok-block.ensures in
    (c.in-Some.places, rw c.in-Some.is at c.in_ok-places.ensures, told.block_is ∙ ap (block_text c.args.line.now) told.is_body)
