use Rattle.plan_base.proofs.Common.{◌≡◌, ℕ, ◌+◌, ◌<◌, get_or, length, max, subst, arith, nat_cmp, nat_tests, All, take_all, All-more, All-weaker}
use Rattle.std.specs.Ordering.{ord_max}
use Rattle.hierarchy.proofs.heights.past_order.Goals as goal

-- the larger of two numbers
larger_is : (m a b : ℕ) → m ≡ ord_max nat_cmp a b → m ≡ max a b
larger_is m a b e = grind (arith, nat_tests)

pub loop-v-preserved : goal.loop-v-preserved
loop-v-preserved c =
    let there : c.loop-v.v-index < length c.args.order.now = c.loop-v-test.true in
    let node = c.requires c.loop-v.v-index 0 there in
    let larger = larger_is c.max-past.result c.loop-v.past (get_or c.args.order.now c.loop-v.v-index 0 + 1) c.max-past.ensures in
    record {
      few = omega (arith, larger);
      past = All-more (λ (v : ℕ). v < c.max-past.result) c.args.order.now c.loop-v.v-index 0 there
          (All-weaker (λ (v : ℕ). v < c.loop-v.past) (λ (v : ℕ). v < c.max-past.result) (λ v h. omega (arith, larger)) _ c.loop-v.invariant.past)
          (omega (arith, larger));
    }

pub returns-clause-past : goal.returns-clause-past
returns-clause-past c =
    subst (λ order. All (λ v. v < c.loop-v.past) order) (take_all c.loop-v.v-index c.args.order.now c.loop-v-test.false) c.loop-v.invariant.past
