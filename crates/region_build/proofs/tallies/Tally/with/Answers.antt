use Rattle.plan_base.proofs.Common.{arith, ◌∙◌}
use Rattle.region_build.specs.{lists_of}
use Rattle.region_build.proofs.{LeavingLaws.late_counted, TallyLaws.tally_more}
use Rattle.region_build.proofs.tallies.Tally.with.Goals as goal

pub with-requires : goal.with-requires
with-requires c = c.late-late.ensures ∙ late_counted (lists_of c.args.source.now) c.args.counted c.requires

pub returns : goal.returns
returns c = λ sources is.
    let kept = c.requires.kept in
    tally_more sources (lists_of c.args.source.now) c.args.self _ is (grind (arith, kept)) (grind (arith, kept)) (grind (arith, kept)) (c.in_ok-with.ensures sources is.left)
