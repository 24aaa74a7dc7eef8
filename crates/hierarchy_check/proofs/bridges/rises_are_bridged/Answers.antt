use Rattle.plan_base.proofs.Common.{below_more, ℕ, arith, get_or}
use Rattle.hierarchy.specs.{entry_at}
use Rattle.hierarchy_check.specs.inside.{RiseIsBridged}
use Rattle.hierarchy_check.proofs.BridgeLemmas.{rises_bridge}
use Rattle.hierarchy_check.proofs.bridges.rises_are_bridged.Goals as goal

pub loop-place-preserved : goal.loop-place-preserved
loop-place-preserved c =
    let h = c.args.h.now in
    let places = c.rise_places_from-place-items.result.now in
    below_more (λ (i : ℕ). RiseIsBridged h c.args.x c.args.entry (entry_at h.entries (get_or places i 0))) c.loop-place.place-index c.loop-place.invariant
    (rw c.entries.ensures at c.rise_is_bridged.ensures c.if-not-rise_is_bridged.false)

pub returns : goal.returns
returns c =
    let places = c.rise_places_from-place-items.result.now in
    λ _. rises_bridge c.args.h.now c.args.x c.args.entry places c.rise_places_from-place-items.ensures.are (λ i lt. c.loop-place.invariant i (omega (arith, lt, c.loop-place-test.false)))
