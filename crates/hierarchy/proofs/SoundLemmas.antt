-- What soundness says of walks over entries.
use Rattle.plan_base.proofs.Common.{◌≡◌, ℕ, ◌+◌, ◌<◌, ◌≤◌, inl, inr, List, [], ◌∷◌, ◌∙◌, length, get_or, refl, sym, ap, subst, arith, Option, Contains, ◌≢◌, cases_lt, cases_eq, All-contains}
use Rattle.mode_network.specs.NetworkLists.{NetworkLists}
use Rattle.hierarchy.specs.{Entry, Hop, AreHops, total, HierarchyLists, height_in, HasEntry, IsSound, IsBridged, FitsLayer, IsFree, NodeIsBridged, PairsAreBridged, PairIsBridged}
use Rattle.hierarchy.proofs.{HeightLemmas.height_most, HeightLemmas.height_is, Shapes.IsBridge, Shapes.IsShaped, Shapes.clear, Shapes.shape}

abbrev entry_of : ℕ → ℕ → ℕ → Option ℕ → Entry
entry_of u v weight via = record { from = u; to = v; weight = weight; via = via }

-- a contracted node stands in the order
pub in_order : (order : List ℕ) (x : ℕ) → height_in order x < length order → Contains order x
in_order order x lt = (height_in order x, lt, height_is order x x lt)

module _ (n : NetworkLists) (h : HierarchyLists) (sound : IsSound n h) where
  pub fits : (u v a : ℕ) (e : HasEntry h.entries u v a) → FitsLayer n (entry_of u v a e.0)
  fits u v a e = All-contains (FitsLayer n) h.entries (entry_of u v a e.0) sound.in_layers e.1

  -- a contracted node is free
  pub contracted_free : (x : ℕ) → height_in h.order x < length h.order → IsFree n x
  contracted_free x lt = subst (IsFree n) (height_is h.order x x lt) ((sound.in_order (height_in h.order x) lt).0 x)

  -- two entries by way of a contracted node below both ends are bridged
  pub bridged : (u x v a b : ℕ) → height_in h.order x < length h.order → HasEntry h.entries u x a → HasEntry h.entries x v b
      → height_in h.order x < height_in h.order u → height_in h.order x < height_in h.order v → u ≢ v → IsBridged h x u v (a + b)
  bridged u x v a b low first second left right differ =
      let place = in_order h.order x low in
      let at_x = All-contains (NodeIsBridged h) h.order x sound.bridged place in
      let at_first = All-contains (PairsAreBridged h x) h.entries (entry_of u x a first.0) at_x first.1 in
      All-contains (PairIsBridged h x (entry_of u x a first.0)) h.entries (entry_of x v b second.0) at_first second.1 (record { to_x = refl; from_x = refl; start_above = left; end_above = right; differ = differ })

  bridge : (u x v a b : ℕ) → height_in h.order x < length h.order → HasEntry h.entries u x a → HasEntry h.entries x v b
      → height_in h.order x < height_in h.order u → height_in h.order x < height_in h.order v → IsBridge (height_in h.order) (HasEntry h.entries) (height_in h.order x) u v (a + b)
  bridge u x v a b low first second left right = elim (cases_eq u v) [
    | inl same ↦ record { hops = []; walk = sym same; above = tt; within = omega arith }
    | inr differ ↦ by_kind (bridged u x v a b low first second left right differ)
  ] where
    by_kind : IsBridged h x u v (a + b) → IsBridge (height_in h.order) (HasEntry h.entries) (height_in h.order x) u v (a + b)
    by_kind (inl (w, has, le)) = record { hops = record { to = v; weight = w } ∷ []; walk = (has, refl); above = (right, tt); within = omega arith }
    by_kind (inr witness) = record { hops = witness.hops; walk = witness.walk; above = witness.above; within = witness.within }

  -- different nodes of one height are core
  apart : (u v a : ℕ) → HasEntry h.entries u v a → height_in h.order u ≡ height_in h.order v → height_in h.order u ≡ length h.order
  apart u v a e same = elim (cases_lt (height_in h.order u) (length h.order)) [
    | inr le ↦ (let most = height_most h.order u in omega arith)
    | inl lt ↦ absurd ((fits u v a e).differ (sym (height_is h.order u u lt) ∙ ap (λ k. get_or h.order k u) same ∙ height_is h.order v u (omega arith)))
  ]

  -- a walk over entries has one that is no heavier, which climbs, goes along the core, and descends
  pub record Shaped (u v : ℕ) (p : List Hop) : Type 0 where
    pub hops : List Hop
    pub walk : AreHops (HasEntry h.entries) u hops v
    pub no_heavier : total hops ≤ total p
    pub shaped : IsShaped (height_in h.order) (length h.order) u hops

  pub shaped : (p : List Hop) (u v : ℕ) → AreHops (HasEntry h.entries) u p v → Shaped u v p
  shaped p u v walk =
      let cleared = clear (height_in h.order) (HasEntry h.entries) (length h.order) bridge p u v walk (length h.order) (omega arith) in
      record {
        hops = cleared.hops;
        walk = cleared.walk;
        no_heavier = cleared.no_heavier;
        shaped = shape (height_in h.order) (HasEntry h.entries) (length h.order) (height_most h.order) apart cleared.hops u v cleared.walk cleared.no_dips;
      }
