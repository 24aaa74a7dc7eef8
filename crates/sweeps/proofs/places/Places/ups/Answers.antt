use Rattle.plan_base.proofs.Common.{◌≡◌, ◌/◌, ℕ, get_or, subst, arith, Contains-get_or}
use Rattle.search_laws.specs.{Leg}
use Rattle.hierarchy.specs.{number_before}
use Rattle.sweeps.specs.Layers.{StandsBehind}
use Rattle.sweeps.proofs.places.Places.ups.Goals as goal

pub returns-in_default-clause-none : goal.returns-in_default-clause-none
returns-in_default-clause-none c = λ never.
    (let legs = c.args.legs.now in
    let leg : Leg = get_or legs c.loop-leg.leg-index (record { to = 0; ms = 0 }) in
    let half : (v : ℕ) → leg.to ≡ number_before v → v ≡ leg.to / 2 = λ v is. omega (arith, is) in
    record {
      leg = leg;
      of = Contains-get_or legs c.loop-leg.leg-index (record { to = 0; ms = 0 }) c.loop-leg-test.true;
      nowhere = λ v is behind. c.in_default.ensures.none (subst (StandsBehind c.args.self.now.nodes.now c.args.i) (half v is) behind);
    })
