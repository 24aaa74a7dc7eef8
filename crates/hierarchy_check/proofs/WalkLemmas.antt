-- A listed walk that can be walked is a witness, and conversely.
use Rattle.plan_base.proofs.Common.{◌≡◌, ℕ, suc, ◌-◌, ◌≤◌, true, false, List, [], ◌∷◌, length, map, get_or, sym, ◌∙◌, ap, subst, arith, refl, inl, inr, ◌↔◌, Contains, cases_order, false≢true, tied_itself, nat_cmp_total, get_or_default, Less, Equal}
use Rattle.hierarchy.specs.{Hop, AreHops, AreHigh, total, nodes_along, HierarchyLists, WitnessLists, height_in, first_of, last_of, witness_cmp, HasEntry, HasWitness, IsWitnessFor, HasNoWitness}
use Rattle.mode_network.specs.{IsAscending}
use Rattle.hierarchy_check.specs.inside.{CanWalk}

-- the last node of a walk that goes on
last_on : (u v : ℕ) (nodes : List ℕ) → last_of (u ∷ v ∷ nodes) ≡ last_of (v ∷ nodes)
last_on u v nodes =
    let place : suc (suc (length nodes)) - 1 ≡ suc (suc (length nodes) - 1) = omega arith in
    ap (λ k. get_or (u ∷ v ∷ nodes) k 0) place

-- hops along nodes that can be walked
pub record Walked (h : HierarchyLists) (x u : ℕ) (nodes : List ℕ) (have : ℕ) : Type 0 where
  pub hops : List Hop
  pub are : nodes_along u hops ≡ u ∷ nodes
  pub walk : AreHops (HasEntry h.entries) u hops (last_of (u ∷ nodes))
  pub above : AreHigh (height_in h.order) (height_in h.order x) hops
  pub within : total hops ≤ have

walked : (h : HierarchyLists) (x u : ℕ) (nodes : List ℕ) (have : ℕ) → CanWalk h x u nodes have → Walked h x u nodes have
walked h x u [] have can = record { hops = []; are = refl; walk = refl; above = tt; within = omega arith }
walked h x u (y ∷ nodes) have (left, step, can) =
    let more = walked h x y nodes left can in
    let hop : Hop = record { to = y; weight = step.weight } in
    record {
      hops = hop ∷ more.hops;
      are = ap (λ ns. u ∷ ns) more.are;
      walk = (step.entry, subst (AreHops (HasEntry h.entries) y more.hops) (sym (last_on u y nodes)) more.walk);
      above = (step.above, more.above);
      within = omega (arith, step.left_is, step.within, more.within);
    }

can_walk : (h : HierarchyLists) (x u v : ℕ) (hops : List Hop) (have : ℕ) → AreHops (HasEntry h.entries) u hops v → AreHigh (height_in h.order) (height_in h.order x) hops → total hops ≤ have
    → CanWalk h x u (map (λ (hop : Hop). hop.to) hops) have
can_walk h x u v [] have walk above within = tt
can_walk h x u v (hop ∷ hops) have (entry, walk) (high, above) within = (
  have - hop.weight,
  record { weight = hop.weight; entry = entry; within = omega arith; above = high; left_is = refl },
  can_walk h x hop.to v hops (have - hop.weight) walk above (omega arith),
)

-- where hops end
ends_at : (h : HierarchyLists) (u v : ℕ) (hops : List Hop) → AreHops (HasEntry h.entries) u hops v → last_of (nodes_along u hops) ≡ v
ends_at h u v [] walk = sym walk
ends_at h u v (hop ∷ hops) (entry, walk) = last_on u hop.to (map (λ (hop : Hop). hop.to) hops) ∙ ends_at h hop.to v hops walk

-- one walk at most is listed for a node between two others
witness_once : (witnesses : List WitnessLists) → IsAscending witness_cmp witnesses → (a b : WitnessLists) → Contains witnesses a → Contains witnesses b
    → a.below ≡ b.below → first_of a.nodes ≡ first_of b.nodes → last_of a.nodes ≡ last_of b.nodes → a ≡ b
witness_once witnesses ascend a b (i, hi, at_i) (j, hj, at_j) below first last = elim (cases_order i j) [
  | inl same ↦ (sym at_i ∙ ap (λ k. get_or witnesses k a) same ∙ get_or_default witnesses j a b hj ∙ at_j)
  | inr apart ↦ elim apart [
    | inl lt ↦ absurd (no_less (sym tied ∙ subst (λ (x : WitnessLists). witness_cmp x b ≡ Less) at_i (subst (λ (y : WitnessLists). witness_cmp (get_or witnesses i a) y ≡ Less) (get_or_default witnesses j a b hj ∙ at_j) (ascend i j a lt hj))))
    | inr lt ↦ absurd (no_less (sym tied_back ∙ subst (λ (x : WitnessLists). witness_cmp x a ≡ Less) at_j (subst (λ (y : WitnessLists). witness_cmp (get_or witnesses j b) y ≡ Less) (get_or_default witnesses i b a hi ∙ at_i) (ascend j i b lt hi))))
  ]
] where
  no_less : Equal ≡ Less → ⊥
  no_less e = cc

  tied : witness_cmp a b ≡ Equal
  tied = rw (below, first, last, tied_itself nat_cmp_total b.below, tied_itself nat_cmp_total (first_of b.nodes)) (tied_itself nat_cmp_total (last_of b.nodes))

  tied_back : witness_cmp b a ≡ Equal
  tied_back = rw (below, first, last, tied_itself nat_cmp_total b.below, tied_itself nat_cmp_total (first_of b.nodes)) (tied_itself nat_cmp_total (last_of b.nodes))

-- the walk that was found decides
pub witness_decides : (h : HierarchyLists) → IsAscending witness_cmp h.witnesses → (x u v limit first : ℕ) (rest : List ℕ) (w : WitnessLists) → IsWitnessFor h.witnesses x u v w → w.nodes ≡ first ∷ rest
    → CanWalk h x first rest limit ↔ HasWitness h x u v limit
witness_decides h ascend x u v limit first rest w found nodes = (λ can. made can, λ has. walk_of has) where
  start : first ≡ u
  start = sym (ap first_of nodes) ∙ found.first_is

  end : last_of (first ∷ rest) ≡ v
  end = sym (ap last_of nodes) ∙ found.last_is

  made : CanWalk h x first rest limit → HasWitness h x u v limit
  made can =
      let is = walked h x first rest limit can in
      let same : w ≡ record { below = x; nodes = nodes_along u is.hops } =
      ap (λ b. record { below = b; nodes = w.nodes }) found.below_is ∙ ap (λ ns. record { below = x; nodes = ns }) (nodes ∙ sym is.are ∙ ap (λ n. nodes_along n is.hops) start) in
      record {
        hops = is.hops;
        walk = subst (λ n. AreHops (HasEntry h.entries) n is.hops v) start (subst (AreHops (HasEntry h.entries) first is.hops) end is.walk);
        above = is.above;
        within = is.within;
        listed = subst (Contains h.witnesses) same found.listed;
      }

  walk_of : HasWitness h x u v limit → CanWalk h x first rest limit
  walk_of has =
      let listed : WitnessLists = record { below = x; nodes = nodes_along u has.hops } in
      let same : w ≡ listed = witness_once h.witnesses ascend w listed found.listed has.listed found.below_is found.first_is (found.last_is ∙ sym (ends_at h u v has.hops has.walk)) in
      let all : first ∷ rest ≡ u ∷ map (λ (hop : Hop). hop.to) has.hops = sym nodes ∙ ap (λ (y : WitnessLists). y.nodes) same in
      let tail : rest ≡ map (λ (hop : Hop). hop.to) has.hops = cc in
      subst (λ ns. CanWalk h x first ns limit) (sym tail) (subst (λ n. CanWalk h x n (map (λ (hop : Hop). hop.to) has.hops) limit) (sym start) (can_walk h x u v has.hops limit has.walk has.above has.within))

-- where none is listed there is none
pub none_listed : (h : HierarchyLists) (x u v limit : ℕ) → HasNoWitness h.witnesses x u v → HasWitness h x u v limit → ⊥
none_listed h x u v limit none has =
    none (record { below = x; nodes = nodes_along u has.hops }) (record { listed = has.listed; below_is = refl; first_is = refl; last_is = ends_at h u v has.hops has.walk })

pub not_listed : (h : HierarchyLists) (x u v limit : ℕ) → HasNoWitness h.witnesses x u v → (false ≡ true) ↔ HasWitness h x u v limit
not_listed h x u v limit none = (λ e. absurd (false≢true e), λ has. absurd (none_listed h x u v limit none has))
