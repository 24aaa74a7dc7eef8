use Rattle.plan_base.proofs.Common.{◌+◌, ◌<◌, ◌∙◌, arith, subst, sym}
use Rattle.hierarchy.specs.{height_in}
use Rattle.hierarchy_check.proofs.{BridgeLemmas.LowestSoFar, BridgeLemmas.lowest_kept, BridgeLemmas.lowest_here, BridgeLemmas.lowest_of_all, BridgeLemmas.bridged_at, BridgeLemmas.unbridged_at, bridges.lowest_unbridged.Goals.then-place-lowest+then-is_some, bridges.lowest_unbridged.Goals.else-place-lowest, bridges.lowest_unbridged.Goals.else-place-lowest-via-then-place-lowest+else-is_some, bridges.lowest_unbridged.Goals.else-place-lowest-via-else-place-lowest}
use Rattle.hierarchy_check.proofs.bridges.lowest_unbridged.Goals as goal

pub loop-x-preserved : goal.loop-x-preserved
loop-x-preserved c =
    let h = c.args.h.now in
    let x = c.loop-x.x in
    let so_far = c.loop-x.invariant in
    elim c.if-place-lowest.branch [
      | then-place-lowest+then-is_some w ↦
          let lower : height_in h.order x < c.loop-x.lowest = omega (arith, w.if-place-lowest.true, c.height-place.ensures) in
          subst (LowestSoFar h (x + 1)) (sym (w.lowest-is ∙ c.height-place.ensures))
          (lowest_here h x c.loop-x.lowest so_far lower (unbridged_at h x w.unbridged_at.result w.unbridged_at.ensures (sym w.is_some.ensures ∙ w.if-is_some.true)))
      | else-place-lowest w ↦ subst (LowestSoFar h (x + 1)) (sym w.lowest-is) (lowest_kept h x c.loop-x.lowest so_far (elim w.else-place-lowest.branch [
        | else-place-lowest-via-then-place-lowest+else-is_some v ↦ λ _. bridged_at h x v.unbridged_at.result v.unbridged_at.ensures (sym v.is_some.ensures ∙ v.if-is_some.false)
        | else-place-lowest-via-else-place-lowest v ↦ λ lower. absurd (omega (arith, lower, v.if-place-lowest.false, c.height-place.ensures))
      ]))
    ]

pub returns-clause-before : goal.returns-clause-before
returns-clause-before c = lowest_of_all c.args.h.now c.loop-x.x c.loop-x.lowest c.loop-x.invariant c.args.nodes c.loop-x-test.false c.requires.below
