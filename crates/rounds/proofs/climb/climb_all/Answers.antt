use Rattle.plan_base.proofs.Common.{◌∙◌, ℕ, ◌<◌, List, Vec, Global, length, length-map, refl, sym, arith, with_items_is}
use Rattle.hierarchy.specs.{HierarchyLists}
use Rattle.rounds.specs.inside.{nodes_of_rungs, Rung}
use Rattle.rounds.proofs.ClimbLemmas.{delays_on, passed_one_more}
use Rattle.rounds.proofs.climb.climb_all.Goals as goal

pub loop-place-preserved : goal.loop-place-preserved
loop-place-preserved c =
    let h : HierarchyLists = c.args.h.now in
    let rungs : List Rung = c.args.rungs.now in
    let nodes = nodes_of_rungs rungs in
    let i = c.loop-place.place in
    let delays : Vec ℕ Global = c.loop-place.delays in
    let old = delays.items in
    let next = c.climb_on.new.delays in
    let lowered = rw c.deref_mut.ensures.value at c.climb_on.ensures.lowered in
    let within : i < length nodes = omega (arith, c.loop-place-test.true, c.loop-place.auto.place-end, length-map rungs (λ (rung : Rung). rung.node)) in
    let kept = c.loop-place.invariant in
    let passed = passed_one_more h c.args.start nodes i within old next lowered kept.passed (c.if-not-climb_on.ensures.passed refl) in
    rw (with_items_is delays next (lowered.as_many ∙ sym delays.ok.0)) (record { are = delays_on h c.args.start nodes i within old next lowered kept.are; passed = passed })
