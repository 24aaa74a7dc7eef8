-- One way more, by a shortcut or by a witness.
use Rattle.plan_base.proofs.Common.{◌≡◌, ◌≢◌, ℕ, ◌+◌, ◌<◌, ◌≤◌, ◌^◌, ◌⊎◌, inl, inr, List, [], ◌∷◌, ◌++◌, ◌∙◌, length, get_or, Some, refl, sym, ap, subst, arith, All, Contains, cases_lt, cases_order, All-contains, Contains-get_or, Contains-append_left, Contains-push}
use Rattle.mode_network.specs.{NetworkLists.NetworkLists, Leads, IsNetwork}
use Rattle.hierarchy.specs.{Hop, AreHops, AreHigh, total, nodes_along, HierarchyLists, height_in, IsCore, IsContracted, HasEntry, HasLighter, IsBridged, IsSound, IsFree, IsShortcut}
use Rattle.hierarchy.proofs.{SoundLemmas.fits, DistanceLemmas.roads_of, ContractionLemmas.contractions_keep_soundness}
use Rattle.contractor.specs.{declared.way.Way.Way, inside.IsTrueWeight, inside.IsLive, inside.IsWayPast, inside.IsNoHeavier, inside.AreWays, inside.IsPartway, inside.IsPut, inside.shortcut_of}
use Rattle.contractor.proofs.{LiveLemmas.HasLiveWalk, LiveLemmas.core_more, LiveLemmas.core_is_high, LiveLemmas.live_walk, LiveLemmas.bridge_kept, PastLemmas.true_sum, SimpleLemmas.road, SimpleLemmas.least_is_light}

-- a way that stands before place k is bridged, and one beside which there was an entry as light
way_bridged : (n : NetworkLists) (h : HierarchyLists) (x : ℕ) (ways : List Way) (k : ℕ) (h2 : HierarchyLists) → IsPartway n h x ways k h2 → (u v a b : ℕ)
    → ((i : ℕ) → i < length ways → get_or ways i (record { first = a; from = u; sum = a + b; to = v }) ≡ record { first = a; from = u; sum = a + b; to = v } → i < k)
    → Contains ways (record { first = a; from = u; sum = a + b; to = v }) ⊎ HasLighter h.entries u v (a + b) → IsBridged h2 x u v (a + b)
way_bridged n h x ways k h2 part u v a b before (inl (i, low, at)) = subst (λ (y : Way). IsBridged h2 x y.from y.to y.sum) at (part.bridged i (record { first = a; from = u; sum = a + b; to = v }) (before i low at))
way_bridged n h x ways k h2 part u v a b before (inr (weight, has, le)) = let l = part.lighter u v weight has in inl (l.0, l.1, (let less = l.2 in omega arith))

module _ (n : NetworkLists) (h : HierarchyLists) (x : ℕ) (ways : List Way) (k : ℕ) (h2 : HierarchyLists) (network : IsNetwork n) (sound : IsSound n h) (core : IsCore h.order x) (are : AreWays h x ways)
    (part : IsPartway n h x ways k h2) (way : Way) (lt : k < length ways) (is : (d : Way) → get_or ways k d ≡ way) where
  is_way : IsWayPast h x way
  is_way = subst (IsWayPast h x) (is way) (are.each k way lt)

  from_is : way.from ≢ x
  from_is same = let w = is_way in (fits n h sound way.from x way.first w.is_first).differ same

  to_is : way.to ≢ x
  to_is same = let w = is_way in (fits n h sound x way.to w.second w.is_second).differ (sym same)

  left_from : IsCore h2.order way.from
  left_from = subst (λ o. IsCore o way.from) (sym part.order) (core_more h.order x way.from from_is is_way.core_from)

  left_to : IsCore h2.order way.to
  left_to = subst (λ o. IsCore o way.to) (sym part.order) (core_more h.order x way.to to_is is_way.core_to)

  itself : (w : Way) → IsNoHeavier w w
  itself w = record { first = omega arith; sum = λ same. omega arith }

  not_later : (w : Way) → IsNoHeavier way w → (w.first < way.first) ⊎ ((w.from ≡ way.from) × (w.sum < way.sum)) → ⊥
  not_later w rises (inl lighter) = let le = rises.first in omega arith
  not_later w rises (inr it) = let le = rises.sum (sym it.0) in let lt = it.1 in omega arith

  -- ways that stand before are bridged
  past : (u v a b : ℕ) → IsCore h.order u → IsCore h.order v → HasEntry h.entries u x a → HasEntry h.entries x v b → u ≢ v → (a < way.first) ⊎ ((u ≡ way.from) × (a + b < way.sum)) → HasLiveWalk h2 u v (a + b)
  past u v a b core_u core_v first second differ earlier =
      let u_is : u ≢ x = λ same. (fits n h sound u x a first).differ same in
      let v_is : v ≢ x = λ same. (fits n h sound x v b second).differ (sym same) in
      live_walk h2 h.order x part.order core u v (a + b)
      (subst (λ o. IsCore o u) (sym part.order) (core_more h.order x u u_is core_u)) (subst (λ o. IsCore o v) (sym part.order) (core_more h.order x v v_is core_v))
      (way_bridged n h x ways k h2 part u v a b before (are.all u v a b core_u core_v first second differ))
    where
      w : Way
      w = record { first = a; from = u; sum = a + b; to = v }

      before : (i : ℕ) → i < length ways → get_or ways i w ≡ w → i < k
      before i low at = elim (cases_order i k) [
        | inl same ↦ absurd (not_later w (subst (λ (y : Way). IsNoHeavier y w) (sym at ∙ ap (λ j. get_or ways j w) same ∙ is w) (itself w)) earlier)
        | inr other ↦ elim other [
          | inl lower ↦ lower
          | inr higher ↦ absurd (not_later w (subst (λ (y : Way). IsNoHeavier y w) (is w) (subst (λ (y : Way). IsNoHeavier (get_or ways k w) y) at (are.rising k i w higher low))) earlier)
        ]
      ]

  module _ (none : (hops : List Hop) → AreHops (IsLive h2) way.from hops way.to → way.sum < total hops) where
    pub least : (roads : List Hop) → AreHops (Leads n.arcs) way.from roads way.to → way.sum ≤ total roads
    least = let w = is_way in true_sum n h x h2 sound part.order part.lighter way.from way.first way.sum w.is_first w.core_from from_is past way.to w.core_to to_is none

    pub light : way.sum < 2 ^ 56
    light =
        let w = is_way in
        let walk : AreHops (HasEntry h.entries) way.from (record { to = x; weight = way.first } ∷ record { to = way.to; weight = w.second } ∷ []) way.to = (w.is_first, (w.is_second, refl)) in
        let r = roads_of n h sound (record { to = x; weight = way.first } ∷ record { to = way.to; weight = w.second } ∷ []) way.from way.to walk in
        least_is_light n network r.hops way.from way.to way.sum (starts_low r.hops r.walk) r.walk least
      where
        starts_low : (p : List Hop) → AreHops (Leads n.arcs) way.from p way.to → way.from < 2 ^ 24
        starts_low [] walk = absurd (is_way.differ (sym walk))
        starts_low (hop ∷ p) (leads, walk) = (road n network way.from hop.to hop.weight leads).from

    shortcut : IsShortcut h x (shortcut_of x way)
    shortcut = let w = is_way in record { via = refl; first = way.first; second = w.second; is_first = w.is_first; is_second = w.is_second; sum = w.sum; core_from = w.core_from; core_to = w.core_to; differ = w.differ; light = light }

    module _ (h3 : HierarchyLists) (order : h3.order ≡ h2.order) (witnesses : h3.witnesses ≡ h2.witnesses) (put : IsPut h2.entries h3.entries (shortcut_of x way)) where
      -- an entry of before is there still, or there is a lighter one
      lighter_now : (u v w : ℕ) → HasEntry h2.entries u v w → HasLighter h3.entries u v w
      lighter_now u v w (via, listed) = elim (put.kept (record { from = u; to = v; weight = w; via = via }) listed) [
        | inl still ↦ (w, (via, still), omega arith)
        | inr same ↦ (let live : IsLive h2 way.from way.to w = record { entry = subst (λ y. HasEntry h2.entries y way.to w) same.0 (subst (λ y. HasEntry h2.entries u y w) same.1 (via, listed)); core_from = left_from; core_to = left_to } in
            let more = none (record { to = way.to; weight = w } ∷ []) (live, refl) in
            subst (λ y. HasLighter h3.entries y v w) (sym same.0) (subst (λ y. HasLighter h3.entries way.from y w) (sym same.1) (way.sum, (Some x, put.there), omega arith)))
      ]

      witnesses_still : All (Contains h3.witnesses) h2.witnesses
      witnesses_still j d low = subst (λ ws. Contains ws (get_or h2.witnesses j d)) (sym witnesses) (Contains-get_or h2.witnesses j d low)

      pub by_shortcut : IsPartway n h x ways (k + 1) h3
      by_shortcut = record {
        order = order ∙ part.order;
        kept = λ e listed at. elim (put.kept e (part.kept e listed (subst (λ o. IsContracted o e.from ⊎ IsContracted o e.to) order at))) [
          | inl still ↦ still
          | inr same ↦ elim at [
            | inl low ↦ absurd (let now : IsCore h3.order e.from = subst (λ o. IsCore o e.from) (sym order) (subst (IsCore h2.order) (sym same.0) left_from) in omega arith)
            | inr low ↦ absurd (let now : IsCore h3.order e.to = subst (λ o. IsCore o e.to) (sym order) (subst (IsCore h2.order) (sym same.1) left_to) in omega arith)
          ]
        ];
        lighter = λ u v w has. (let l = part.lighter u v w has in let m = lighter_now u v l.0 l.1 in (m.0, m.1, (let a = l.2 in let b = m.2 in omega arith)));
        made = λ f listed. elim (put.made f listed) [
          | inl new ↦ inr (subst (IsShortcut h x) (sym new) shortcut)
          | inr was ↦ part.made f was
        ];
        witnesses = λ j d low. subst (λ ws. Contains ws (get_or h.witnesses j d)) (sym witnesses) (part.witnesses j d low);
        true_weights = λ j d low. elim (put.made (get_or h3.entries j d) (Contains-get_or h3.entries j d low)) [
          | inl new ↦ subst (IsTrueWeight n) (sym new) (λ made. least)
          | inr was ↦ All-contains (IsTrueWeight n) h2.entries (get_or h3.entries j d) part.true_weights was
        ];
        bridged = λ j d low. elim (cases_lt j k) [
          | inl earlier ↦ bridge_kept h2 h3 order lighter_now witnesses_still x (get_or ways j d).from (get_or ways j d).to (get_or ways j d).sum (part.bridged j d earlier)
          | inr later ↦ (let now : j ≡ k = omega arith in
              let here : get_or ways j d ≡ way = subst (λ i. get_or ways i d ≡ way) (sym now) (is d) in
              subst (λ (y : Way). IsBridged h3 x y.from y.to y.sum) (sym here) (inl (way.sum, (Some x, put.there), omega arith)))
        ];
      }

  module _ (hops : List Hop) (walk : AreHops (IsLive h2) way.from hops way.to) (within : total hops ≤ way.sum) (h3 : HierarchyLists) (order : h3.order ≡ h2.order) (entries : h3.entries ≡ h2.entries)
      (witnesses : h3.witnesses ≡ h2.witnesses ++ record { below = x; nodes = nodes_along way.from hops } ∷ []) where
    same_lighter : (u v w : ℕ) → HasEntry h2.entries u v w → HasLighter h3.entries u v w
    same_lighter u v w has = (w, subst (λ es. HasEntry es u v w) (sym entries) has, omega arith)

    still_listed : All (Contains h3.witnesses) h2.witnesses
    still_listed j d low = subst (λ ws. Contains ws (get_or h2.witnesses j d)) (sym witnesses) (Contains-append_left h2.witnesses _ (get_or h2.witnesses j d) (Contains-get_or h2.witnesses j d low))

    entries_of : (p : List Hop) (u v : ℕ) → AreHops (IsLive h2) u p v → AreHops (HasEntry h3.entries) u p v
    entries_of [] u v walk = walk
    entries_of (hop ∷ p) u v (live, walk) = (subst (λ es. HasEntry es u hop.to hop.weight) (sym entries) live.entry, entries_of p hop.to v walk)

    high_of : (p : List Hop) (u v : ℕ) → AreHops (IsLive h2) u p v → AreHigh (height_in h3.order) (height_in h3.order x) p
    high_of [] u v walk = tt
    high_of (hop ∷ p) u v (live, walk) = (
      subst (λ o. height_in o x < height_in o hop.to) (sym (order ∙ part.order)) (core_is_high h.order x hop.to core (subst (λ o. IsCore o hop.to) part.order live.core_to)),
      high_of p hop.to v walk,
    )

    pub by_witness : IsPartway n h x ways (k + 1) h3
    by_witness = record {
      order = order ∙ part.order;
      kept = λ e listed at. subst (λ es. Contains es e) (sym entries) (part.kept e listed (subst (λ o. IsContracted o e.from ⊎ IsContracted o e.to) order at));
      lighter = λ u v w has. (let l = part.lighter u v w has in (l.0, subst (λ es. HasEntry es u v l.0) (sym entries) l.1, l.2));
      made = λ f listed. part.made f (subst (λ es. Contains es f) entries listed);
      witnesses = λ j d low. (let there = part.witnesses j d low in subst (λ ws. Contains ws (get_or h.witnesses j d)) (sym witnesses) (Contains-append_left h2.witnesses _ (get_or h.witnesses j d) there));
      true_weights = subst (λ es. All (IsTrueWeight n) es) (sym entries) part.true_weights;
      bridged = λ j d low. elim (cases_lt j k) [
        | inl earlier ↦ bridge_kept h2 h3 order same_lighter still_listed x (get_or ways j d).from (get_or ways j d).to (get_or ways j d).sum (part.bridged j d earlier)
        | inr later ↦ (let now : j ≡ k = omega arith in
            let here : get_or ways j d ≡ way = subst (λ i. get_or ways i d ≡ way) (sym now) (is d) in
            subst (λ (y : Way). IsBridged h3 x y.from y.to y.sum) (sym here) (inr (record {
              hops = hops;
              walk = entries_of hops way.from way.to walk;
              above = high_of hops way.from way.to walk;
              within = within;
              listed = subst (λ ws. Contains ws (record { below = x; nodes = nodes_along way.from hops })) (sym witnesses) (Contains-push h2.witnesses _);
            })))
      ];
    }

-- ---- the begin and the end

-- before the first way, x is put at the order's end
pub partway_begins : (n : NetworkLists) (h : HierarchyLists) (x : ℕ) (ways : List Way) → All (IsTrueWeight n) h.entries → IsPartway n h x ways 0 (record { order = h.order ++ x ∷ []; entries = h.entries; witnesses = h.witnesses })
partway_begins n h x ways weights = record {
  order = refl;
  kept = λ e listed at. listed;
  lighter = λ u v w has. (w, has, omega arith);
  made = λ e listed. inl listed;
  witnesses = λ j d low. Contains-get_or h.witnesses j d low;
  true_weights = weights;
  bridged = λ j d low. absurd (omega arith);
}

-- when all are bridged, the hierarchy is sound
pub partway_ends : (n : NetworkLists) (h : HierarchyLists) (x : ℕ) (ways : List Way) (k : ℕ) (h2 : HierarchyLists) → IsSound n h → IsCore h.order x → IsFree n x → AreWays h x ways → length ways ≤ k → IsPartway n h x ways k h2 → IsSound n h2
partway_ends n h x ways k h2 sound core free are all part = contractions_keep_soundness n h x h2 sound (record {
  order = part.order;
  core = core;
  free = free;
  kept = part.kept;
  lighter = part.lighter;
  made = part.made;
  witnesses = part.witnesses;
  bridged = λ u v a b core_u core_v first second differ. way_bridged n h x ways k h2 part u v a b (λ i low at. omega arith) (are.all u v a b core_u core_v first second differ);
})
