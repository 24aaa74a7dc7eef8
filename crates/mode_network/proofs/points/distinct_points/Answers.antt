use Rattle.plan_base.proofs.Common.{arith, ◌≡◌, ◌∙◌, ◌<◌, ◌+◌, ◌∷◌, ◌++◌, [], take, length, sym, ap, subst, Contains, IfSome, Contains-push}
use Rattle.mode_network.specs.{road_points, HoldSame}
use Rattle.mode_network.proofs.{NearLemmas.pushed, NearLemmas.kept, points.distinct_points.Goals.then-not-is_same+in_ok-push, points.distinct_points.Goals.else-not-is_same}
use Rattle.mode_network.proofs.points.distinct_points.Goals as goal

pub loop-node-preserved : goal.loop-node-preserved
loop-node-preserved c =
    let there : c.loop-node.node-index < length c.args.roads.now = omega arith in
    let before = c.loop-node.points.items in
    let k = c.loop-node.node-index in
    let roads = c.args.roads.now in
    let node = c.node-item.result in
    let p = c.point_of-point.result in
    let p_is = c.point_of-point.ensures in
    elim c.if-not-is_same.branch [
      | then-not-is_same+in_ok-push w ↦ (
          let items : c.if-not-is_same.points.items ≡ before ++ p ∷ [] = cc (w.points-is, w.in_ok-push.ensures.items) in
          record {
            same = subst (λ xs. HoldSame xs (road_points (take (k + 1) roads))) (sym (items ∙ ap (λ x. before ++ x ∷ []) p_is)) (pushed before roads k node there c.node-item.is c.loop-node.invariant.same);
            held = subst (λ o. IfSome o (Contains c.if-not-is_same.points.items)) (sym w.last-is) (subst (λ xs. Contains xs p) (sym items) (Contains-push before p));
          })
      | else-not-is_same w ↦ (
          let items : c.if-not-is_same.points.items ≡ before = cc (w.points-is) in
          let holds : Contains before p = subst (λ o. IfSome o (Contains before)) (c.is_same.ensures w.if-not-is_same.false) c.loop-node.invariant.held in
          record {
            same = subst (λ xs. HoldSame xs (road_points (take (k + 1) roads))) (sym items) (kept before roads k node there c.node-item.is c.loop-node.invariant.same (subst (Contains before) p_is holds));
            held = subst (λ o. IfSome o (Contains c.if-not-is_same.points.items)) (sym w.last-is) (subst (λ xs. IfSome c.loop-node.last (Contains xs)) (sym items) c.loop-node.invariant.held);
          })
    ]
