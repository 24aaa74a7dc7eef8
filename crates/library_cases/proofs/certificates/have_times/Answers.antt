use Rattle.plan_base.proofs.Common.{◌≡◌, ℕ, ◌+◌, ◌<◌, List, length, nat_lt, Bool, true, false, refl, sym, subst, arith, slice_index_or, ltb-true, ltb-false, get_or_default}
use Rattle.mode_network.specs.{Step}
use Rattle.journey.specs.{HasTime}
use Rattle.library_cases.proofs.certificates.have_times.Goals as goal

have_more : (steps : List Step) (i : ℕ) (x : Step) → i < length steps → ((k : ℕ) (d : Step) → k < i → HasTime (slice_index_or steps k d))
    → HasTime (slice_index_or steps i x) → (k : ℕ) (d : Step) → k < i + 1 → HasTime (slice_index_or steps k d)
have_more steps i x within below here k d lt = by_place (nat_lt k i) refl
  where
    by_place : (b : Bool) → nat_lt k i ≡ b → HasTime (slice_index_or steps k d)
    by_place true e = below k d (ltb-true k i e)
    by_place false e =
        let same : k ≡ i = omega (arith, ltb-false k i e) in
        subst (λ (j : ℕ). HasTime (slice_index_or steps j d)) (sym same) (subst HasTime (get_or_default steps i x d within) here)

pub loop-step-preserved : goal.loop-step-preserved
loop-step-preserved c =
    have_more c.args.steps.now c.loop-step.step-index _ c.loop-step-test.true c.loop-step.invariant (c.has_time.ensures c.if-not-has_time.false)

pub returns : goal.returns
returns c = λ yes k d lt. c.loop-step.invariant k d (omega arith)
