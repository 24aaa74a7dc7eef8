-- A hierarchy that is lent.
use Rattle.plan_base.proofs.Common.{◌≡◌, Option, Some, None, Bor, refl, sym, subst, IfSome, is_some, option_map}
use Rattle.mode_network.specs.NetworkLists.{NetworkLists}
use Rattle.hierarchy.specs.{declared.hierarchy.Hierarchy.Hierarchy, HierarchyLists, IsSound}

-- one that is sound is so where it is lent
pub lent_sound : (n : NetworkLists) (lent : Option (Bor Hierarchy)) (h : Option HierarchyLists) → option_map (λ x. x.now) lent ≡ h → IfSome h (λ k. IsSound n k) → IfSome lent (λ x. IsSound n x.now)
lent_sound n None h e sound = tt
lent_sound n (Some x) h e sound = subst (λ (o : Option HierarchyLists). IfSome o (λ k. IsSound n k)) (sym e) sound

pub lent_same : (lent : Option (Bor Hierarchy)) → is_some (option_map (λ x. x.now) lent) ≡ is_some lent
lent_same None = refl
lent_same (Some x) = refl
