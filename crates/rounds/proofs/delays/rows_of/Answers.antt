use Rattle.plan_base.proofs.Common.{◌≡◌, ◌∙◌, ◌+◌, ◌-◌, ◌^◌, ◌<◌, ◌++◌, ◌∷◌, [], ℕ, List, Vec, Global, replicate, sym, ap, subst, arith, below_more, length, length-replicate, get_or-replicate}
use Rattle.rounds.specs.inside.{HaveShape, cell, never}
use Rattle.sweeps.specs.{time_at}
use Rattle.rounds.proofs.RowLemmas.{shape_more, row-push, row-push_before}
use Rattle.rounds.proofs.delays.rows_of.Goals as goal

pub loop-preserved : goal.loop-preserved
loop-preserved c =
    let width = c.args.width in
    let count = c.loop.counter in
    let old = c.loop.rows.items in
    let row = c.in_ok-vec.field-0 in
    let all : row.items ≡ replicate width (2 ^ 32 - 1) = c.in_ok-vec.ensures.items_if_clones_equal (λ y is. is) in
    let pushed = sym c.in_ok-push.ensures.items in
    record {
      shape = subst (HaveShape (count + 1) width) pushed (shape_more count width old row c.loop.invariant.shape (ap length all ∙ length-replicate width (2 ^ 32 - 1)));
      none = λ k i lt. subst (λ (rows : List (Vec ℕ Global)). i < width → cell rows k i ≡ never) pushed
          (below_more (λ k. i < width → cell (old ++ row ∷ []) k i ≡ never) count
          (λ k lt within. ap (λ xs. time_at xs i) (row-push_before old row k (omega (arith, lt, c.loop.invariant.shape.count_is))) ∙ c.loop.invariant.none k i lt within)
          (λ within. ap (λ xs. time_at xs i) (row-push old row count (sym c.loop.invariant.shape.count_is) ∙ all) ∙ get_or-replicate width i (2 ^ 32 - 1) 0 within) k lt);
    }
