use Rattle.plan_base.proofs.Common.{subst, sym, ◌∙◌}
use Rattle.region_build.specs.{IsCompiled}
use Rattle.region_build.proofs.BuildLaws.{compiled_are_parts, compiled_keep}
use Rattle.region_build.proofs.building.build.Goals as goal

pub network_of-requires-clause-parts : goal.network_of-requires-clause-parts
network_of-requires-clause-parts c =
    let compiled = subst (IsCompiled c.args.caps.now c.args.objects.now c.args.feed.now c.args.days) (sym c.in_ok-parts.ensures) (c.in_ok-trips.ensures.compiled c.args.objects.now c.in_ok-lists.ensures.are) in
    compiled_are_parts c.args.caps.now c.args.objects.now c.args.feed.now c.args.days c.in_ok-parts.parts c.requires.objects compiled

pub network_of-requires-clause-faultless : goal.network_of-requires-clause-faultless
network_of-requires-clause-faultless c =
    let compiled = subst (IsCompiled c.args.caps.now c.args.objects.now c.args.feed.now c.args.days) (sym c.in_ok-parts.ensures) (c.in_ok-trips.ensures.compiled c.args.objects.now c.in_ok-lists.ensures.are) in
    compiled_keep c.args.caps.now c.args.objects.now c.args.feed.now c.args.days c.in_ok-parts.parts c.requires.objects compiled c.requires.feed c.known.ensures.days

pub returns-clause-compiled : goal.returns-clause-compiled
returns-clause-compiled c =
    subst (IsCompiled c.args.caps.now c.args.objects.now c.args.feed.now c.args.days) (sym (c.in_ok-network.ensures.parts ∙ c.in_ok-parts.ensures)) (c.in_ok-trips.ensures.compiled c.args.objects.now c.in_ok-lists.ensures.are)
