use Rattle.plan_base.proofs.Common.{◌≡◌, ◌∙◌, ◌+◌, ◌<◌, nat_eq, inl, inr, Bool, true, false, List, ℕ, length, length-set, drop, get_or, set, refl, arith, subst, sym, Contains, eqb-true, eqb-false, drop_more, get_or-set_other, get_or-set_same}
use Rattle.phase_graph.specs.inside.{number_at}
use Rattle.phase_graph.proofs.FallLemmas.{first_or_later}
use Rattle.phase_graph.proofs.mark_table.MarkTable.put.Goals as goal

-- where the number of the next node is 0, one node less may have another
one_less : (nodes numbers : List ℕ) (i : ℕ) → i < length nodes → get_or nodes i 0 < length numbers → ((v : ℕ) → (Contains (drop i nodes) v → ⊥) → number_at numbers v ≡ 0)
    → (v : ℕ) → (Contains (drop (i + 1) nodes) v → ⊥) → number_at (set numbers (get_or nodes i 0) 0) v ≡ 0
one_less nodes numbers i lt within others v apart = by_node (nat_eq v x) refl
  where
    x : ℕ
    x = get_or nodes i 0

    by_node : (b : Bool) → nat_eq v x ≡ b → number_at (set numbers x 0) v ≡ 0
    by_node true e = subst (λ u. number_at (set numbers x 0) u ≡ 0) (sym (eqb-true v x e)) (get_or-set_same numbers x 0 0 within)
    by_node false e =
        get_or-set_other numbers x v 0 0 (eqb-false v x e)
        ∙ others v (λ there. elim (first_or_later x (drop (i + 1) nodes) v (subst (λ (us : List ℕ). Contains us v) (drop_more nodes i 0 lt) there)) [
          | inl same ↦ eqb-false v x e (sym same)
          | inr later ↦ apart later
        ])

pub loop-v-preserved : goal.loop-v-preserved
loop-v-preserved c =
    let nodes = c.args.nodes.now in
    let numbers = c.loop-v.numbers.items in
    let i = c.loop-v.v-index in
    let lt = c.loop-v-test.true in
    record {
      long = length-set numbers (get_or nodes i 0) 0 ∙ c.loop-v.invariant.long;
      others = one_less nodes numbers i lt (omega (arith, c.requires.within i 0 lt, c.loop-v.invariant.long)) c.loop-v.invariant.others;
    }
