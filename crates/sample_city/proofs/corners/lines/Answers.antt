use Rattle.plan_base.proofs.Common.{List, ℕ, ◌≡◌, ◌+◌, ◌<◌, ◌++◌, ◌∷◌, [], ◌∙◌, length, ap, sym, subst, arith, All, range_with_len, length-range_with_len}
use Rattle.sample_city.proofs.RangeLaws.{below_end, range_more}
use Rattle.sample_city.proofs.corners.lines.Goals as goal

pub loop-line-preserved : goal.loop-line-preserved
loop-line-preserved c =
    let here : 0 + c.loop-line.line ≡ c.loop-line.line = omega arith in
    c.in_ok-push.ensures.items ∙ ap (λ (items : List ℕ). items ++ c.loop-line.line ∷ []) c.loop-line.invariant
    ∙ sym (range_more 0 c.loop-line.line ∙ ap (λ (line : ℕ). range_with_len 0 c.loop-line.line ++ line ∷ []) here)

pub returns-clause-below : goal.returns-clause-below
returns-clause-below c = subst (All (λ line. line < c.args.n)) (sym c.loop-line.invariant) (λ k d within. (let below = below_end c.loop-line.line k d within in omega (arith, below)))

pub returns-clause-count : goal.returns-clause-count
returns-clause-count c = ap length c.loop-line.invariant ∙ length-range_with_len 0 c.loop-line.line ∙ (omega arith)
