-- What the entry that was found between two nodes decides.
use Rattle.plan_base.proofs.Common.{◌≡◌, ℕ, ◌+◌, ◌-◌, ◌<◌, ◌≤◌, true, false, nat_eq, nat_le, List, ◌∷◌, Some, sym, ◌∙◌, ap, subst, arith, ◌↔◌, Contains, Option, None, IfSome, IfNone, MatchOption, false≢true, leb-true, le-leb, ltb-true, eqb-true, eq-eqb}
use Rattle.mode_network.specs.{Arc, IsAscending, arc_cmp, Leads}
use Rattle.mode_network.proofs.FindLemmas.{leads_once}
use Rattle.hierarchy.specs.{Entry, HierarchyLists, is_above, entry_cmp, HasEntry, HasLighter, IsEntryFor, HasNoEntry}
use Rattle.hierarchy.proofs.LookupLemmas.{weight_once}
use Rattle.hierarchy_check.specs.inside.{IsSumOver, CanStep, CanWalk}

-- the entry that was found
pub entry_is : (entries : List Entry) (u v : ℕ) (e : Entry) → IsEntryFor entries u v e → HasEntry entries u v e.weight
entry_is entries u v e found =
    let same : e ≡ record { from = u; to = v; weight = e.weight; via = e.via } =
    ap (λ a. record { from = a; to = e.to; weight = e.weight; via = e.via }) found.from ∙ ap (λ b. record { from = u; to = b; weight = e.weight; via = e.via }) found.to in
    (e.via, subst (Contains entries) same found.listed)

module _ (entries : List Entry) (ascend : IsAscending entry_cmp entries) where
  pub lighter_found : (u v limit : ℕ) (e : Entry) → IsEntryFor entries u v e → (nat_le e.weight limit ≡ true) ↔ HasLighter entries u v limit
  lighter_found u v limit e found = (
    λ h. (e.weight, entry_is entries u v e found, leb-true _ _ h),
    λ (weight, has, within). le-leb _ _ (let same = weight_once entries ascend u v weight e.weight has (entry_is entries u v e found) in omega arith),
  )

  pub sum_found : (u m v weight : ℕ) (a b : Entry) → IsEntryFor entries u m a → IsEntryFor entries m v b → (nat_eq (a.weight + b.weight) weight ≡ true) ↔ IsSumOver entries u m v weight
  sum_found u m v weight a b found other = (
    λ h. record { first = a.weight; second = b.weight; is_first = entry_is entries u m a found; is_second = entry_is entries m v b other; sum = sym (eqb-true _ _ h) },
    λ is. eq-eqb _ _ (let first = weight_once entries ascend u m is.first a.weight is.is_first (entry_is entries u m a found) in
        let second = weight_once entries ascend m v is.second b.weight is.is_second (entry_is entries m v b other) in omega (arith, is.sum)),
  )

pub lighter_missing : (entries : List Entry) (u v limit : ℕ) → HasNoEntry entries u v → (false ≡ true) ↔ HasLighter entries u v limit
lighter_missing entries u v limit none = (λ h. absurd (false≢true h), λ (weight, has, within). absurd (none weight has))

pub first_missing : (entries : List Entry) (u m v weight : ℕ) → HasNoEntry entries u m → (false ≡ true) ↔ IsSumOver entries u m v weight
first_missing entries u m v weight none = (λ h. absurd (false≢true h), λ is. absurd (none is.first is.is_first))

pub second_missing : (entries : List Entry) (u m v weight : ℕ) → HasNoEntry entries m v → (false ≡ true) ↔ IsSumOver entries u m v weight
second_missing entries u m v weight none = (λ h. absurd (false≢true h), λ is. absurd (none is.second is.is_second))

-- ---- road arcs

pub arc_found : (arcs : List Arc) → IsAscending arc_cmp arcs → (u v ms weight : ℕ) → Leads arcs u v ms → (nat_eq ms weight ≡ true) ↔ Leads arcs u v weight
arc_found arcs ascend u v ms weight leads =
    (λ h. subst (Leads arcs u v) (eqb-true _ _ h) leads, λ other. eq-eqb _ _ (leads_once arcs ascend u v ms weight leads other))

pub arc_missing : (arcs : List Arc) (u v weight : ℕ) → ((ms : ℕ) → Leads arcs u v ms → ⊥) → (false ≡ true) ↔ Leads arcs u v weight
arc_missing arcs u v weight none = (λ h. absurd (false≢true h), λ leads. absurd (none weight leads))

-- ---- steps of a walk

-- there is one step at most between two nodes
pub step_once : (h : HierarchyLists) → IsAscending entry_cmp h.entries → (x u y have a b : ℕ) → CanStep h x u y have a → CanStep h x u y have b → a ≡ b
step_once h ascend x u y have a b first second =
    first.left_is ∙ ap (λ w. have - w) (weight_once h.entries ascend u y first.weight second.weight first.entry second.entry) ∙ sym second.left_is

-- what is left decides a step
pub step_decides : (h : HierarchyLists) → IsAscending entry_cmp h.entries → (x u y have : ℕ) (e : Entry) → is_above h.order y x ≡ true → IsEntryFor h.entries u y e → (o : Option ℕ)
    → IfSome o (λ left. (e.weight ≤ have) × (left ≡ have - e.weight)) → IfNone o (have < e.weight)
    → MatchOption o ((left : ℕ) → CanStep h x u y have left → ⊥) (CanStep h x u y have)
step_decides h ascend x u y have e above found (Some left) some none =
    record { weight = e.weight; entry = entry_is h.entries u y e found; within = some.0; above = ltb-true _ _ above; left_is = some.1 }
step_decides h ascend x u y have e above found None some none = λ left step. too_heavy left step none where
  too_heavy : (left : ℕ) → CanStep h x u y have left → have < e.weight → ⊥
  too_heavy left step more =
      let same = weight_once h.entries ascend u y step.weight e.weight step.entry (entry_is h.entries u y e found) in
      let within = step.within in
      omega arith

-- a walk that can't go on is none
pub no_walk : (h : HierarchyLists) (x u y : ℕ) (nodes : List ℕ) (have : ℕ) → ((left : ℕ) → CanStep h x u y have left → ⊥) → (false ≡ true) ↔ CanWalk h x u (y ∷ nodes) have
no_walk h x u y nodes have none = (λ e. absurd (false≢true e), λ (left, step, walk). absurd (none left step))

-- after a step the walk goes on with what is left
pub walk_on : (h : HierarchyLists) → IsAscending entry_cmp h.entries → (x u y : ℕ) (nodes : List ℕ) (have left : ℕ) → CanStep h x u y have left
    → CanWalk h x y nodes left ↔ CanWalk h x u (y ∷ nodes) have
walk_on h ascend x u y nodes have left step =
    (λ walk. (left, step, walk), λ (other, first, walk). subst (CanWalk h x y nodes) (step_once h ascend x u y have other left first step) walk)

pub both_ways : {P Q R : Type 0} → P ↔ Q → Q ↔ R → P ↔ R
both_ways first second = (λ p. second.0 (first.0 p), λ r. first.1 (second.1 r))
