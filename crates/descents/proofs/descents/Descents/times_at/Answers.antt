use Rattle.plan_base.proofs.Common.{◌≡◌, ◌∙◌, ◌∷◌, ◌++◌, [], ℕ, List, Option, None, length, slice_index, slice_index_or, sym, ap, subst, arith, below_more, length-append, get_or_push, get_or_append_left}
use Rattle.phase_graph.specs.{node_of}
use Rattle.descents.specs.inside.{IsDelayAt}
use Rattle.descents.proofs.descents.Descents.times_at.Goals as goal

pub loop-end-preserved : goal.loop-end-preserved
loop-end-preserved c =
    let i = c.loop-end.end-index in
    let old = c.loop-end.times.items in
    let x = c.arrival_at.result in
    let pushed : c.push.new.self.items ≡ old ++ x ∷ [] = c.in_ok-push.ensures.items in
    let Is : ℕ → Option ℕ → Type 0 = λ k. IsDelayAt c.args.self.now.slope.nodes.items c.args.before.now c.args.after.now (node_of (slice_index c.args.ends.now k)) c.args.dep in
    record {
      one_each = ap length pushed ∙ (length-append old (x ∷ []) ∙ omega (arith, c.loop-end.invariant.one_each));
      are = below_more (λ k. Is k (slice_index_or c.push.new.self.items k None)) i
          (λ k lt. subst (λ (times : List (Option ℕ)). Is k (slice_index_or times k None)) (sym pushed)
          (subst (Is k) (sym (get_or_append_left old (x ∷ []) None k (omega (arith, lt, c.loop-end.invariant.one_each)))) (c.loop-end.invariant.are k lt)))
          (subst (λ (times : List (Option ℕ)). Is i (slice_index_or times i None)) (sym pushed) (subst (Is i) (sym (get_or_push old x None i c.loop-end.invariant.one_each)) c.arrival_at.ensures));
    }
