use Rattle.plan_base.proofs.Common.{List, length, inl, inr, refl, sym, subst, All}
use Rattle.search_laws.specs.{HoldsBelow}
use Rattle.hierarchy.specs.{Entry, MayStandAt, FitsLayer, FailsFirst}
use Rattle.hierarchy_check.proofs.checking.check_nodes.Goals as goal

pub returns-in-Some-first_across_layers : goal.returns-in-Some-first_across_layers
returns-in-Some-first_across_layers c = rw c.broken-in-Some-first_across_layers.ensures (λ h order entries.
    let n = c.args.network.now in
    let holds : HoldsBelow (length c.args.order.now) (MayStandAt n c.args.order.now) = rw c.in-None.is at c.in_ok-at.ensures in
    inr (inl (
      refl,
      refl,
      subst (λ it. HoldsBelow (length it) (MayStandAt n it)) (sym order) holds,
      subst (λ (it : List Entry). FailsFirst (FitsLayer n) it c.in-Some-first_across_layers.at) (sym entries) c.in-Some-first_across_layers.ensures,
    )))

pub returns-in-None-first_across_layers : goal.returns-in-None-first_across_layers
returns-in-None-first_across_layers c = λ h order entries.
    let n = c.args.network.now in
    let holds : HoldsBelow (length c.args.order.now) (MayStandAt n c.args.order.now) = rw c.in-None.is at c.in_ok-at.ensures in
    (subst (λ it. HoldsBelow (length it) (MayStandAt n it)) (sym order) holds, subst (λ (it : List Entry). All (FitsLayer n) it) (sym entries) c.in-None-first_across_layers.ensures)
