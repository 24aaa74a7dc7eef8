use Rattle.plan_base.proofs.Common.{◌≡◌, ◌∙◌, ◌+◌, ◌<◌, ℕ, List, Vec, Global, All, inl, inr, sym, subst, arith, cases_eq}
use Rattle.rounds.specs.inside.{never, row_of}
use Rattle.rounds.proofs.RowLemmas.{row_is}
use Rattle.rounds.proofs.asked.Asked.with_room.Goals as goal

pub loop-k-preserved : goal.loop-k-preserved
loop-k-preserved g c =
    let walks : List (Vec ℕ Global) = c.args.reached.walks.items in
    let k = c.loop-k.k in
    let longest = c.args.self.now.rounds.now.longest in
    let row : row_of walks k ≡ c.deref.result.now = row_is walks k c.index.result.now (omega (arith, c.loop-k-test.true, c.len-k-end.ensures)) c.index.ensures ∙ sym c.deref.ensures.value in
    record {
      roomy = λ j lt. elim (cases_eq j k) [
        | inl same ↦ subst (λ i. All (λ t. t < never → t + longest < never) (row_of walks i)) (sym same) (subst (All (λ t. t < never → t + longest < never)) (sym row) (c.has_room.ensures c.if-not-has_room.false))
        | inr other ↦ c.loop-k.invariant.roomy j (omega (arith, lt, other))
      ];
    }
