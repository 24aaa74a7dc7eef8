-- Legs between places are entries between their nodes, and what climbs or descends over entries does so over legs.
use Rattle.plan_base.proofs.Common.{◌≡◌, ℕ, ◌+◌, ◌<◌, ◌⊎◌, inl, inr, ◌∙◌, List, [], ◌∷◌, length, refl, sym, ap, subst, arith, Contains, All-contains, Contains-get_or, cases_order, get_or_default, slice_index}
use Rattle.search_laws.specs.{Leg}
use Rattle.mode_network.specs.{NetworkLists.NetworkLists}
use Rattle.hierarchy.specs.{Hop, AreHops, total, IsDescent, HierarchyLists, height_in, HasEntry, IsAbove, IsHierarchy, IsSound, number_before}
use Rattle.hierarchy.proofs.{PlaceLemmas.Contains-map, Shapes.IsShaped, SoundLemmas.shaped}
use Rattle.sweeps.specs.Rows.{row_at}
use Rattle.sweeps.specs.Slopes.{leg_by, LeadsDown}
use Rattle.sweeps.specs.Sheets.{Sheet, LeadsUp, LeadsBetween, HasWayOver, IsWhole}
use Rattle.sweeps.specs.Layers.{IsLayer, IsSheetOf, SheetsAreWhole, origin, outward}
use Rattle.sweeps.proofs.EntryLemmas.{Contains-from_map, entry_fall, entry_leg, fall_entry, hop_by, leg_entry}

-- hops that lead so, and weigh so much together
pub record HasHops (Leads : ℕ → ℕ → ℕ → Type 0) (u v weight : ℕ) : Type 0 where
  pub hops : List Hop
  pub walk : AreHops Leads u hops v
  pub weighs : total hops ≡ weight

module _ (h : HierarchyLists) (nodes : List ℕ) (s : Sheet) (rules : IsHierarchy h) (layer : IsLayer h nodes) (is : IsSheetOf h nodes s) where
  abbrev node : ℕ → ℕ
  node i = slice_index nodes i

  abbrev height : ℕ → ℕ
  height v = height_in h.order v

  many : length s.slope.nodes.items ≡ length nodes
  many = ap length is.slope.nodes_are

  -- ---- places

  up_inside : (i : ℕ) (leg : Leg) → i < length nodes → Contains (row_at s.ups i) leg → leg.to < length nodes
  up_inside i leg lt of =
      let on = All-contains (λ (l : Leg). (i < l.to) × (l.to < length s.slope.nodes.items)) (row_at s.ups i) leg (s.ups_on i (omega (arith, many))) of in
      omega (arith, many, on.1)

  down_inside : (i : ℕ) (leg : Leg) → i < length nodes → Contains (row_at s.slope.downs i) leg → leg.to < length nodes
  down_inside i leg lt of =
      let on = All-contains (λ (l : Leg). (i < l.to) × (l.to < length s.slope.nodes.items)) (row_at s.slope.downs i) leg (s.slope.downs_on i (omega (arith, many))) of in
      omega (arith, many, on.1)

  inside : (i j w : ℕ) → LeadsBetween s i j w → (i < length nodes) × (j < length nodes)
  inside i j w (inl (lt, leg)) = let low : i < length nodes = omega (arith, many) in (low, up_inside i (leg_by j w) low leg)
  inside i j w (inr (lt, leg)) = let low : j < length nodes = omega (arith, many) in (down_inside j (leg_by i w) low leg, low)

  ends_inside : (hops : List Hop) (i j : ℕ) → i < length nodes → AreHops (LeadsBetween s) i hops j → j < length nodes
  ends_inside [] i j lt walk = subst (λ k. k < length nodes) (sym walk) lt
  ends_inside (hop ∷ hops) i j lt (leads, walk) = ends_inside hops hop.to j (inside i hop.to hop.weight leads).1 walk

  -- no node has two places
  one_place : (i j : ℕ) → i < length nodes → j < length nodes → node i ≡ node j → i ≡ j
  one_place i j low high same = by_order (cases_order i j) (ap height same)
    where
      by_order : (i ≡ j) ⊎ ((i < j) ⊎ (j < i)) → height (node i) ≡ height (node j) → i ≡ j
      by_order (inl at) level = at
      by_order (inr (inl less)) level = let up = layer.ascend i j less high in absurd (omega arith)
      by_order (inr (inr more)) level = let up = layer.ascend j i more low in absurd (omega arith)

  end_place : (i v w : ℕ) → i < length nodes → HasEntry h.entries (node i) v w → (k : ℕ) × (k < length nodes) × (node k ≡ v)
  end_place i v w lt entry =
      let there = (layer.apart (node i) v w entry (inl (Contains-get_or nodes i 0 lt))).1 in
      (there.0, there.1, get_or_default nodes there.0 0 v there.1 ∙ there.2)

  -- ---- legs as entries

  pub between_entry : (i j w : ℕ) → LeadsBetween s i j w → HasEntry h.entries (node i) (node j) w
  between_entry i j w (inl (lt, leg)) =
      leg_entry h rules is.short (node i) (node j) w
      (subst (λ (legs : List Leg). Contains legs (leg_by (number_before (node j)) w)) (is.ups i (omega (arith, many))) (Contains-map (outward nodes) (row_at s.ups i) (leg_by j w) leg))
  between_entry i j w (inr (lt, leg)) =
      (fall_entry h (node i) (node j) w
      (subst (λ (hops : List Hop). Contains hops (hop_by (node i) w)) (is.slope.downs j (omega (arith, many))) (Contains-map (origin nodes) (row_at s.slope.downs j) (leg_by i w) leg))).0

  node_walk : (hops : List Hop) (i j : ℕ) → AreHops (LeadsBetween s) i hops j → HasHops (HasEntry h.entries) (node i) (node j) (total hops)
  node_walk [] i j walk = record { hops = []; walk = ap node walk; weighs = refl }
  node_walk (hop ∷ hops) i j (leads, walk) =
      let more = node_walk hops hop.to j walk in
      record { hops = hop_by (node hop.to) hop.weight ∷ more.hops; walk = (between_entry i hop.to hop.weight leads, more.walk); weighs = ap (λ t. hop.weight + t) more.weighs }

  -- ---- entries as legs

  module _ (i j w : ℕ) (low : i < length nodes) (high : j < length nodes) (entry : HasEntry h.entries (node i) (node j) w) where
    pub entry_up : IsAbove h.order (node j) (node i) → LeadsUp s i j w
    entry_up above =
        let there = entry_leg h rules is.short (node i) (node j) w entry above in
        let found = Contains-from_map (outward nodes) (row_at s.ups i) (leg_by (number_before (node j)) w)
        (subst (λ (legs : List Leg). Contains legs (leg_by (number_before (node j)) w)) (sym (is.ups i low)) there) in
        let twice : number_before (node found.0.to) ≡ number_before (node j) = ap (λ (l : Leg). l.to) found.2 in
        let place : found.0.to ≡ j = one_place found.0.to j (up_inside i found.0 low found.1) high (omega (arith, twice)) in
        (omega (arith, many), subst (λ k. Contains (row_at s.ups i) (leg_by k w)) place (subst (λ m. Contains (row_at s.ups i) (leg_by found.0.to m)) (ap (λ (l : Leg). l.ms) found.2) found.1))

    pub entry_down : IsAbove h.order (node i) (node j) → LeadsDown s.slope i j w
    entry_down above =
        let there = entry_fall h (node i) (node j) w entry above in
        let found = Contains-from_map (origin nodes) (row_at s.slope.downs j) (hop_by (node i) w) (subst (λ (hops : List Hop). Contains hops (hop_by (node i) w)) (sym (is.slope.downs j high)) there) in
        let place : found.0.to ≡ i = one_place found.0.to i (down_inside j found.0 high found.1) low (ap (λ (x : Hop). x.to) found.2) in
        (omega (arith, many), subst (λ k. Contains (row_at s.slope.downs j) (leg_by k w)) place (subst (λ m. Contains (row_at s.slope.downs j) (leg_by found.0.to m)) (ap (λ (x : Hop). x.weight) found.2) found.1))

  -- ---- walks of entries that climb and descend

  down : (hops : List Hop) (i j : ℕ) → i < length nodes → j < length nodes → AreHops (HasEntry h.entries) (node i) hops (node j) → IsDescent height (node i) hops → HasHops (LeadsDown s.slope) i j (total hops)
  down [] i j low high walk falls = record { hops = []; walk = one_place j i high low walk; weighs = refl }
  down (hop ∷ hops) i j low high (entry, walk) (lower, falls) =
      let k = end_place i hop.to hop.weight low entry in
      let more = down hops k.0 j k.1 high (subst (λ x. AreHops (HasEntry h.entries) x hops (node j)) (sym k.2) walk) (subst (λ x. IsDescent height x hops) (sym k.2) falls) in
      let leg = entry_down i k.0 hop.weight low k.1 (subst (λ x. HasEntry h.entries (node i) x hop.weight) (sym k.2) entry) (subst (λ x. height x < height (node i)) (sym k.2) lower) in
      record { hops = hop_by k.0 hop.weight ∷ more.hops; walk = (leg, more.walk); weighs = ap (λ t. hop.weight + t) more.weighs }

  over : (hops : List Hop) (i j : ℕ) → i < length nodes → j < length nodes → AreHops (HasEntry h.entries) (node i) hops (node j) → IsShaped height (length h.order) (node i) hops → HasWayOver s i j (total hops)
  over [] i j low high walk shape = record { peak = i; climb = []; descent = []; climbs = refl; descends = one_place j i high low walk; within = omega arith }
  over (hop ∷ hops) i j low high (entry, walk) shape =
      let k = end_place i hop.to hop.weight low entry in
      by_shape k shape (λ rest. over hops k.0 j k.1 high (subst (λ x. AreHops (HasEntry h.entries) x hops (node j)) (sym k.2) walk) (subst (λ x. IsShaped height (length h.order) x hops) (sym k.2) rest))
    where
      by_shape : (k : (p : ℕ) × (p < length nodes) × (node p ≡ hop.to))
          → ((height (node i) < height hop.to) × IsShaped height (length h.order) hop.to hops)
          ⊎ ((height (node i) ≡ length h.order) × (height hop.to ≡ length h.order) × IsShaped height (length h.order) hop.to hops)
          ⊎ IsDescent height (node i) (hop ∷ hops)
          → (IsShaped height (length h.order) hop.to hops → HasWayOver s k.0 j (total hops)) → HasWayOver s i j (hop.weight + total hops)
      by_shape k (inl (up, rest)) next =
          let more = next rest in
          let leg = entry_up i k.0 hop.weight low k.1 (subst (λ x. HasEntry h.entries (node i) x hop.weight) (sym k.2) entry) (subst (λ x. height (node i) < height x) (sym k.2) up) in
          record { peak = more.peak; climb = hop_by k.0 hop.weight ∷ more.climb; descent = more.descent; climbs = (leg, more.climbs); descends = more.descends; within = omega (arith, more.within) }
      by_shape k (inr (inl (core, there, rest))) next = let low_down = layer.contracted i 0 low in absurd (omega arith)
      by_shape k (inr (inr falls)) next =
          let fall = down (hop ∷ hops) i j low high (entry, walk) falls in
          record { peak = i; climb = []; descent = fall.hops; climbs = refl; descends = fall.walk; within = omega (arith, fall.weighs) }

  pub whole : (n : NetworkLists) → IsSound n h → IsWhole s
  whole n sound i j [] walk = record { peak = i; climb = []; descent = []; climbs = refl; descends = walk; within = omega arith }
  whole n sound i j (hop ∷ hops) (leads, walk) =
      let first = inside i hop.to hop.weight leads in
      let nodes_walk = node_walk (hop ∷ hops) i j (leads, walk) in
      let c = shaped n h sound nodes_walk.hops (node i) (node j) nodes_walk.walk in
      let way = over c.hops i j first.0 (ends_inside hops hop.to j first.1 walk) c.walk c.shaped in
      record { peak = way.peak; climb = way.climb; descent = way.descent; climbs = way.climbs; descends = way.descends; within = omega (arith, way.within, c.no_heavier, nodes_walk.weighs) }

pub sheets_are_whole : SheetsAreWhole
sheets_are_whole n h nodes s rules sound layer is = whole h nodes s rules layer is n sound
