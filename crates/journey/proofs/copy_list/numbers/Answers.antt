use Rattle.plan_base.proofs.Common.{◌≡◌, ◌∙◌, ℕ, ◌+◌, ◌-◌, List, [], ◌∷◌, ◌++◌, ap, sym, arith, range_with_len}
use Rattle.journey.proofs.CopyLemmas.{range_more}
use Rattle.journey.proofs.copy_list.numbers.Goals as goal

pub loop-v-preserved : goal.loop-v-preserved
loop-v-preserved c =
    let first = c.args.first in
    let count : ℕ = c.loop-v.v - first in
    let next : c.loop-v.v + 1 - first ≡ count + 1 = omega arith in
    let here : first + count ≡ c.loop-v.v = omega arith in
    rw next (c.in_ok-push.ensures.items ∙ (ap (λ (l : List ℕ). l ++ c.loop-v.v ∷ []) c.loop-v.invariant ∙ sym (range_more count first ∙ ap (λ v. range_with_len first count ++ v ∷ []) here)))
