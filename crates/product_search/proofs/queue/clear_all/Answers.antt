use Rattle.plan_base.proofs.Common.{◌∙◌, ◌≡◌, [], inl, inr, sym, subst, set, arith, cases_lt, cases_eq, length-set}
use Rattle.product_search.specs.inside.{bucket_of}
use Rattle.product_search.proofs.QueueLemmas.{bucket-set_same, bucket-set_other, bucket_past}
use Rattle.product_search.proofs.queue.clear_all.Goals as goal

pub loop-i-preserved : goal.loop-i-preserved
loop-i-preserved c = record {
  same = length-set c.loop-i.buckets.items c.loop-i.i c.clear.new.self ∙ c.loop-i.invariant.same;
  none = λ k lt. elim (cases_eq k c.loop-i.i) [
    | inl same ↦ subst (λ j. bucket_of (set c.loop-i.buckets.items c.loop-i.i c.clear.new.self) j ≡ []) (sym same)
        (bucket-set_same c.loop-i.buckets.items c.loop-i.i c.clear.new.self
        (omega (arith, c.loop-i-test.true, c.len-i-end.ensures, c.loop-i.invariant.same)) ∙ c.clear.ensures.items)
    | inr other ↦ bucket-set_other c.loop-i.buckets.items c.loop-i.i k c.clear.new.self other ∙ c.loop-i.invariant.none k (omega (arith, lt, other))
  ];
}

pub returns-clause-none : goal.returns-clause-none
returns-clause-none c k = elim (cases_lt k c.loop-i.i) [
  | inl lt ↦ c.loop-i.invariant.none k lt
  | inr ge ↦ bucket_past c.loop-i.buckets.items k (omega (arith, ge, c.loop-i-test.false, c.len-i-end.ensures, c.loop-i.invariant.same))
]
