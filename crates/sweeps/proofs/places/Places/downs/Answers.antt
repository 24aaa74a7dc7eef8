use Rattle.plan_base.proofs.Common.{get_or, inl, Contains-get_or}
use Rattle.hierarchy.specs.{Fall}
use Rattle.sweeps.proofs.places.Places.downs.Goals as goal

pub returns-in_default-clause-none : goal.returns-in_default-clause-none
returns-in_default-clause-none c = λ never.
    (let falls = c.args.falls.now in
    let none : Fall = record { from = 0; place = 0; weight = 0 } in
    record {
      fall = get_or falls c.loop-fall.fall-index none;
      of = Contains-get_or falls c.loop-fall.fall-index none c.loop-fall-test.true;
      why = inl (λ behind. c.in_default.ensures.none behind);
    })
