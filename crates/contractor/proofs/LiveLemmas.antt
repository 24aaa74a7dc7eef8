-- What is left after one node more.
use Rattle.plan_base.proofs.Common.{◌≡◌, ◌≢◌, ℕ, ◌<◌, ◌≤◌, inl, inr, List, [], ◌∷◌, ◌++◌, ◌∙◌, length, refl, sym, ap, subst, arith, All, Contains, cases_lt, length_push, All-contains}
use Rattle.hierarchy.specs.{Hop, AreHops, AreHigh, total, nodes_along, HierarchyLists, height_in, IsCore, HasEntry, HasLighter, IsBridged}
use Rattle.hierarchy.proofs.{HeightLemmas.height_most, ContractionLemmas.height_kept, ContractionLemmas.height_next, ContractionLemmas.height_other}
use Rattle.contractor.specs.inside.{IsLive}

-- a core node is contracted next: the others stay core
pub core_more : (order : List ℕ) (x v : ℕ) → v ≢ x → IsCore order v → IsCore (order ++ x ∷ []) v
core_more order x v differ core = height_other order x v differ core ∙ sym (length_push order x)

pub core_less : (order : List ℕ) (x v : ℕ) → IsCore order x → IsCore (order ++ x ∷ []) v → IsCore order v × (v ≢ x)
core_less order x v core left = (before, differ) where
  before : IsCore order v
  before = elim (cases_lt (height_in order v) (length order)) [
    | inr le ↦ (let most = height_most order v in omega arith)
    | inl lt ↦ absurd (let same = height_kept order x v lt in omega (arith, length_push order x))
  ]

  differ : v ≢ x
  differ same = let next = height_next order x core in let now : height_in (order ++ x ∷ []) x ≡ length (order ++ x ∷ []) = subst (IsCore (order ++ x ∷ [])) same left in omega (arith, length_push order x)

-- a walk over what is left, no heavier than the limit
pub record HasLiveWalk (h : HierarchyLists) (u v limit : ℕ) : Type 0 where
  pub hops : List Hop
  pub walk : AreHops (IsLive h) u hops v
  pub within : total hops ≤ limit

-- higher than x are those that are left
pub high_is_core : (order : List ℕ) (x v : ℕ) → IsCore order x → height_in (order ++ x ∷ []) x < height_in (order ++ x ∷ []) v → IsCore (order ++ x ∷ []) v
high_is_core order x v core up =
    let next = height_next order x core in
    let most = height_most (order ++ x ∷ []) v in
    omega (arith, length_push order x)

pub core_is_high : (order : List ℕ) (x v : ℕ) → IsCore order x → IsCore (order ++ x ∷ []) v → height_in (order ++ x ∷ []) x < height_in (order ++ x ∷ []) v
core_is_high order x v core left = let next = height_next order x core in omega (arith, length_push order x)

live_from_high : (h : HierarchyLists) (order : List ℕ) (x : ℕ) → h.order ≡ order ++ x ∷ [] → IsCore order x → (hops : List Hop) (u v : ℕ) → IsCore h.order u → AreHops (HasEntry h.entries) u hops v
    → AreHigh (height_in h.order) (height_in h.order x) hops → AreHops (IsLive h) u hops v
live_from_high h order x is core [] u v left walk high = walk
live_from_high h order x is core (hop ∷ hops) u v left (entry, walk) (up, high) =
    let there : IsCore h.order hop.to = subst (λ o. IsCore o hop.to) (sym is) (high_is_core order x hop.to core (subst (λ o. height_in o x < height_in o hop.to) is up)) in
    (record { entry = entry; core_from = left; core_to = there }, live_from_high h order x is core hops hop.to v there walk high)

-- a way that is bridged has a walk over what is left
pub live_walk : (h : HierarchyLists) (order : List ℕ) (x : ℕ) → h.order ≡ order ++ x ∷ [] → IsCore order x → (u v limit : ℕ) → IsCore h.order u → IsCore h.order v → IsBridged h x u v limit → HasLiveWalk h u v limit
live_walk h order x is core u v limit left right (inl (w, has, le)) = record { hops = record { to = v; weight = w } ∷ []; walk = (record { entry = has; core_from = left; core_to = right }, refl); within = omega arith }
live_walk h order x is core u v limit left right (inr w) = record { hops = w.hops; walk = live_from_high h order x is core w.hops u v left w.walk w.above; within = w.within }

-- ---- a bridge stays one where entries get lighter

record Lighter (h : HierarchyLists) (k u v : ℕ) (p : List Hop) (order : List ℕ) : Type 0 where
  hops : List Hop
  walk : AreHops (HasEntry h.entries) u hops v
  above : AreHigh (height_in order) k hops
  same : nodes_along u hops ≡ nodes_along u p
  within : total hops ≤ total p

module _ (h h2 : HierarchyLists) (order : h2.order ≡ h.order) (lighter : (u v w : ℕ) → HasEntry h.entries u v w → HasLighter h2.entries u v w) (witnesses : All (Contains h2.witnesses) h.witnesses) where
  lightened : (k : ℕ) (p : List Hop) (u v : ℕ) → AreHops (HasEntry h.entries) u p v → AreHigh (height_in h.order) k p → Lighter h2 k u v p h.order
  lightened k [] u v walk high = record { hops = []; walk = walk; above = tt; same = refl; within = omega arith }
  lightened k (hop ∷ p) u v (entry, walk) (up, high) =
      let l = lighter u hop.to hop.weight entry in
      let more = lightened k p hop.to v walk high in
      record {
        hops = record { to = hop.to; weight = l.0 } ∷ more.hops;
        walk = (l.1, more.walk);
        above = (up, more.above);
        same = ap (λ ns. u ∷ ns) more.same;
        within = (let first = l.2 in let second = more.within in omega arith);
      }

  pub bridge_kept : (x u v limit : ℕ) → IsBridged h x u v limit → IsBridged h2 x u v limit
  bridge_kept x u v limit (inl (w, has, le)) = let l = lighter u v w has in inl (l.0, l.1, (let less = l.2 in omega arith))
  bridge_kept x u v limit (inr w) =
      let r = lightened (height_in h.order x) w.hops u v w.walk w.above in
      let listed = All-contains (Contains h2.witnesses) h.witnesses (record { below = x; nodes = nodes_along u w.hops }) witnesses w.listed in
      inr (record {
        hops = r.hops;
        walk = r.walk;
        above = subst (λ o. AreHigh (height_in o) (height_in o x) r.hops) (sym order) r.above;
        within = (let first = r.within in let second = w.within in omega arith);
        listed = subst (λ (ns : List ℕ). Contains h2.witnesses (record { below = x; nodes = ns })) (sym r.same) listed;
      })
