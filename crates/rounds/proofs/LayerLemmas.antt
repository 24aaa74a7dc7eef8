-- Layers of a core: their gates, their nodes, and what leads between their places.
use mathlib.Core.Bool.{beq}
use Rattle.plan_base.proofs.Common.{[], ℕ, ◌&&◌, ◌++◌, ◌+◌, ◌<◌, ◌∙◌, ◌∷◌, ◌≡◌, ◌≤◌, ◌⊎◌, All, All-contains, All-contains_itself, All-filter, All-push, All-weaker, and_from, and_parts, ap, arith, Bool, cases_eq, cases_order, cond, Contains, Contains-append_left, Contains-get_or, Contains-push, eq-eqb, eqb-true, false, filter, filter_passes, get_or, get_or_append_left, get_or_from_slice_get, get_or_push, inl, inr, IsTrue, length, length-append, List, ltb-false, not, refl, slice_get, slice_get-get_or, slice_get_within, slice_index, Some, subst, suc, sym, true, zero}
use Rattle.mode_network.specs.{Arc, Leads, NetworkLists.NetworkLists}
use Rattle.hierarchy.specs.{Entry, HierarchyLists, height_in, is_core, is_contracted, HasEntry, IsCore, IsCovered, IsHierarchy, IsSound}
use Rattle.hierarchy.proofs.{HeightLemmas.height_is, HeightLemmas.height_most, HeightLemmas.height_least, HopLemmas.hops_weaker, PlaceLemmas.Contains-map, RoadLemmas.roads_under, SoundLemmas.fits}
use Rattle.cores.specs.{is_core_entry, core_arc, core_arcs, IsSoundOnCore}
use Rattle.sweeps.specs.{Sheet, LeadsBetween, IsSheetOf, IsLayer, inside.ArePlacesOf}
use Rattle.sweeps.proofs.{EntryLemmas.Contains-from_map, EntryLemmas.has_entry, LayerLemmas.between_entry, LayerLemmas.entry_up, LayerLemmas.entry_down, LayerLemmas.sheets_are_whole}
use Rattle.rounds.specs.Layers.{CoreLayer, CoreLeads, IsApart, IsCoreIn, HasCoreHops, IsCoreLayer, AreLayerNodes, Gate, IsGate, AreGates}
use Rattle.rounds.proofs.RowLemmas.{each_more}

abbrev gate_by : ℕ → ℕ → Gate
gate_by crossing place = record { crossing = crossing; place = place }

-- the gates to the first so many crossings
pub record AreGatesBelow (nodes crossings : List ℕ) (count : ℕ) (gates : List Gate) : Type 0 where
  pub are : All (IsGate nodes crossings) gates
  pub all : (i j : ℕ) → i < length nodes → j < count → slice_index nodes i ≡ slice_index crossings j → Contains gates (gate_by j i)

module _ (nodes crossings : List ℕ) (count : ℕ) (gates : List Gate) (below : AreGatesBelow nodes crossings count gates) where
  -- a crossing that is no node of the sheet has none
  pub gate_passes : (Contains nodes (slice_index crossings count) → ⊥) → AreGatesBelow nodes crossings (count + 1) gates
  gate_passes none = record {
    are = below.are;
    all = λ i j lt less same. elim (cases_eq j count) [
      | inl last ↦ absurd (none (subst (Contains nodes) (same ∙ ap (slice_index crossings) last) (Contains-get_or nodes i 0 lt)))
      | inr other ↦ below.all i j lt (omega (arith, other)) same
    ];
  }

  -- and one that is one has this, as no node has two places
  pub gate_more : (table : List ℕ) (place : ℕ) → ArePlacesOf nodes (length nodes) table → place < length nodes → slice_index nodes place ≡ slice_index crossings count → count < length crossings
      → AreGatesBelow nodes crossings (count + 1) (gates ++ gate_by count place ∷ [])
  gate_more table place placed inside here within = record {
    are = All-push (IsGate nodes crossings) gates (gate_by count place) below.are (record { place = inside; crossing = within; is = here });
    all = λ i j lt less same. elim (cases_eq j count) [
      | inl last ↦ (let at : slice_index nodes i ≡ slice_index nodes place = same ∙ ap (slice_index crossings) last ∙ sym here in
          let one : i ≡ place = sym (placed i lt).1 ∙ ap (slice_index table) at ∙ (placed place inside).1 in
          subst (λ k. Contains (gates ++ gate_by count place ∷ []) (gate_by k i)) (sym last) (subst (λ k. Contains (gates ++ gate_by count place ∷ []) (gate_by count k)) (sym one) (Contains-push gates (gate_by count place))))
      | inr other ↦ Contains-append_left gates (gate_by count place ∷ []) (gate_by j i) (below.all i j lt (omega (arith, other)) same)
    ];
  }

-- ---- the nodes of a layer

-- a node that is not in the order is core
pub core_of : (order : List ℕ) (v : ℕ) → is_contracted order v ≡ false → IsCore order v
core_of order v out = let most = height_most order v in let high = ltb-false (height_in order v) (length order) out in omega arith

-- those that stand in the order below a height
pub record AreNodesBelow (n : NetworkLists) (h : HierarchyLists) (order : List ℕ) (letter height : ℕ) (nodes : List ℕ) : Type 0 where
  pub core : All (IsCoreIn n h letter) nodes
  pub low : All (λ v. height_in order v < height) nodes
  pub ascend : (i j : ℕ) → i < j → j < length nodes → height_in order (slice_index nodes i) < height_in order (slice_index nodes j)

-- in a sound hierarchy a node is as high as its place in the order is
pub height_at : (n : NetworkLists) (h : HierarchyLists) → IsSound n h → (i v : ℕ) → i < length h.order → get_or h.order i v ≡ v → height_in h.order v ≡ i
height_at n h sound i v lt is =
    let least = height_least h.order v i v lt is in
    elim (cases_order (height_in h.order v) i) [
      | inl same ↦ same
      | inr (inl less) ↦ absurd ((sound.in_order i lt).1 (height_in h.order v) v less (height_is h.order v v (omega arith) ∙ sym is))
      | inr (inr more) ↦ absurd (omega arith)
    ]

module _ (n : NetworkLists) (h : HierarchyLists) (order : List ℕ) (letter : ℕ) (height : ℕ) (nodes : List ℕ) (below : AreNodesBelow n h order letter height nodes) where
  pub node_passes : AreNodesBelow n h order letter (height + 1) nodes
  node_passes = record { core = below.core; low = All-weaker (λ v. height_in order v < height) (λ v. height_in order v < height + 1) (λ v less. omega arith) nodes below.low; ascend = below.ascend }

  pub node_more : (v : ℕ) → IsCoreIn n h letter v → height_in order v ≡ height → AreNodesBelow n h order letter (height + 1) (nodes ++ v ∷ [])
  node_more v is at = record {
    core = All-push (IsCoreIn n h letter) nodes v below.core is;
    low = All-push (λ u. height_in order u < height + 1) nodes v node_passes.low (omega arith);
    ascend = λ i j less lt. (let long = length-append nodes (v ∷ []) in
        let first : slice_index (nodes ++ v ∷ []) i ≡ slice_index nodes i = get_or_append_left nodes (v ∷ []) 0 i (omega (arith, long)) in
        let low : height_in order (slice_index nodes i) < height = All-contains (λ u. height_in order u < height) nodes (slice_index nodes i) below.low (Contains-get_or nodes i 0 (omega (arith, long))) in
        elim (cases_eq j (length nodes)) [
          | inl last ↦ (let second : slice_index (nodes ++ v ∷ []) j ≡ v = get_or_push nodes v 0 j (sym last) in rw (first, second) (omega arith))
          | inr other ↦ (let second : slice_index (nodes ++ v ∷ []) j ≡ slice_index nodes j = get_or_append_left nodes (v ∷ []) 0 j (omega (arith, long, other)) in
              rw (first, second) (below.ascend i j less (omega (arith, long, other))))
        ]);
  }

-- ---- entries that leave a layer

-- an entry leads between two of the nodes, or between two others
abbrev pub IsApartAt : List ℕ → ℕ → ℕ → Type 0
IsApartAt nodes u v = Contains nodes u ⊎ Contains nodes v → Contains nodes u × Contains nodes v

pub apart_at : (nodes : List ℕ) (u v : ℕ) (a b : Bool) → (IsTrue a → Contains nodes u) → (a ≡ false → Contains nodes u → ⊥) → (IsTrue b → Contains nodes v) → (b ≡ false → Contains nodes v → ⊥)
    → not (beq a b) ≡ false → IsApartAt nodes u v
apart_at nodes u v true true yes_u no_u yes_v no_v same = λ either. (yes_u refl, yes_v refl)
apart_at nodes u v false false yes_u no_u yes_v no_v same = λ either. elim either [ inl there ↦ absurd (no_u refl there) | inr there ↦ absurd (no_v refl there) ]
apart_at nodes u v true false yes_u no_u yes_v no_v same = cc
apart_at nodes u v false true yes_u no_u yes_v no_v same = cc

-- where all do, a layer has no entries to or from elsewhere
pub apart_all : (h : HierarchyLists) (nodes : List ℕ) → All (λ (e : Entry). IsApartAt nodes e.from e.to) h.entries → IsApart h nodes
apart_all h nodes each u v w (via, there) = All-contains (λ (e : Entry). IsApartAt nodes e.from e.to) h.entries (record { from = u; to = v; weight = w; via = via }) each there

-- ---- the arcs of a core

-- what is among those that pass a test is among all, and passes it
pub Contains-from_filter : {X : Type 0} (p : X → Bool) (xs : List X) (x : X) → Contains (filter p xs) x → Contains xs x × (p x ≡ true)
Contains-from_filter p xs x there = (
  All-contains (Contains xs) (filter p xs) x (All-filter p (Contains xs) xs (All-contains_itself xs)) there,
  All-contains (λ y. p y ≡ true) (filter p xs) x (filter_passes p xs) there,
)

-- and what passes it is among those
pub Contains-filter : {X : Type 0} (p : X → Bool) (xs : List X) (x : X) → Contains xs x → p x ≡ true → Contains (filter p xs) x
Contains-filter p [] x (k, lt, at) passes = absurd (omega arith)
Contains-filter p (y ∷ xs) x (zero, lt, at) passes = let first : p y ≡ true = ap p at ∙ passes in rw first (0, omega arith, at)
Contains-filter p (y ∷ xs) x (suc k, lt, at) passes = by_test (p y) (Contains-filter p xs x (k, omega arith, at) passes) where
  by_test : (b : Bool) → Contains (filter p xs) x → Contains (cond b (y ∷ filter p xs) (filter p xs)) x
  by_test true (i, less, is) = (suc i, omega arith, is)
  by_test false later = later

core_nodes : (order : List ℕ) (u v : ℕ) → (is_core order u && is_core order v) ≡ true → IsCore order u × IsCore order v
core_nodes order u v both = (let parts = and_parts (is_core order u) (is_core order v) both in (eqb-true _ _ parts.0, eqb-true _ _ parts.1))

-- an arc of a core is an entry along it
pub arc_leads : (h : HierarchyLists) (u v w : ℕ) → Leads (core_arcs h) u v w → CoreLeads h u v w
arc_leads h u v w there =
    let arc : Arc = record { from = u; to = v; ms = w } in
    let found = Contains-from_map core_arc (filter (is_core_entry h.order) h.entries) arc there in
    let e : Entry = found.0 in
    let is = Contains-from_filter (is_core_entry h.order) h.entries e found.1 in
    let core = core_nodes h.order e.from e.to is.1 in
    let from : e.from ≡ u = ap (λ (a : Arc). a.from) found.2 in
    let to : e.to ≡ v = ap (λ (a : Arc). a.to) found.2 in
    (has_entry h.entries e u v w is.0 from to (ap (λ (a : Arc). a.ms) found.2), subst (IsCore h.order) from core.0, subst (IsCore h.order) to core.1)

-- and conversely
pub leads_arc : (h : HierarchyLists) (u v w : ℕ) → CoreLeads h u v w → Leads (core_arcs h) u v w
leads_arc h u v w ((via, there), begins, ends) =
    let e : Entry = record { from = u; to = v; weight = w; via = via } in
    Contains-map core_arc (filter (is_core_entry h.order) h.entries) e
    (Contains-filter (is_core_entry h.order) h.entries e there (and_from (is_core h.order u) (is_core h.order v) (eq-eqb _ _ begins) (eq-eqb _ _ ends)))

-- ---- layers

module _ (n : NetworkLists) (h k : HierarchyLists) (letter : ℕ) (s : Sheet) (nodes : List ℕ) (on : IsSoundOnCore n h k) (rules : IsHierarchy k)
    (are : AreLayerNodes n h k.order letter nodes) (is : IsSheetOf k nodes s) (apart : IsApart k s.slope.nodes.items)
  where
    same : s.slope.nodes.items ≡ nodes
    same = is.slope.nodes_are

    abbrev node : ℕ → ℕ
    node i = slice_index nodes i

    layer : IsLayer k nodes
    layer = record { contracted = are.contracted; ascend = are.ascend; apart = subst (IsApart k) same apart }

    -- a leg is a walk along the core
    leg_hops : (i j w : ℕ) → LeadsBetween s i j w → HasCoreHops h (node i) (node j) w
    leg_hops i j w leads =
        let roads = roads_under on.network k on.sound (node i) (node j) w (between_entry k nodes s rules layer is i j w leads) in
        record {
          hops = roads.hops;
          walk = hops_weaker (Leads on.network.arcs) (CoreLeads h) (λ u v a there. arc_leads h u v a (subst (λ arcs. Leads arcs u v a) on.core.arcs there)) roads.hops (node i) (node j) roads.walk;
          weighs = roads.weighs;
        }

    -- an entry along the core has a leg that is no longer
    entry_leg : (i j w : ℕ) → i < length nodes → j < length nodes → CoreLeads h (node i) (node j) w → (lighter : ℕ) × (lighter ≤ w) × LeadsBetween s i j lighter
    entry_leg i j w low high leads =
        let arc : Arc = record { from = node i; to = node j; ms = w } in
        let there : Contains on.network.arcs arc = subst (λ arcs. Leads arcs (node i) (node j) w) (sym on.core.arcs) (leads_arc h (node i) (node j) w leads) in
        let (lighter, entry, less) = All-contains (IsCovered k) on.network.arcs arc on.sound.arcs_covered there in
        (lighter, less, between lighter entry (cases_order (height_in k.order (node i)) (height_in k.order (node j))))
      where
        between : (a : ℕ) (entry : HasEntry k.entries (node i) (node j) a)
            → (height_in k.order (node i) ≡ height_in k.order (node j)) ⊎ ((height_in k.order (node i) < height_in k.order (node j)) ⊎ (height_in k.order (node j) < height_in k.order (node i))) → LeadsBetween s i j a
        between a entry (inl level) = absurd ((fits on.network k on.sound (node i) (node j) a entry).differ
            (sym (height_is k.order (node i) (node i) (are.contracted i 0 low)) ∙ ap (λ p. get_or k.order p (node i)) level ∙ height_is k.order (node j) (node i) (are.contracted j 0 high)))
        between a entry (inr (inl up)) = inl (entry_up k nodes s rules layer is i j a low high entry up)
        between a entry (inr (inr down)) = inr (entry_down k nodes s rules layer is i j a low high entry down)

    pub core_layer : ((v : ℕ) → IsCoreIn n h letter v → Contains s.slope.nodes.items v) → IsCoreLayer n h letter s
    core_layer all = record {
      whole = sheets_are_whole on.network k nodes s rules on.sound layer is;
      core = subst (All (IsCoreIn n h letter)) (sym same) are.core;
      all = all;
      legs = λ i j w leads. subst (λ xs. HasCoreHops h (slice_index xs i) (slice_index xs j) w) (sym same) (leg_hops i j w leads);
      entries = λ i j w low high leads. entry_leg i j w (subst (λ xs. i < length xs) same low) (subst (λ xs. j < length xs) same high)
          (subst (λ xs. CoreLeads h (slice_index xs i) (slice_index xs j) w) same leads);
    }

-- ---- the layers of a core

-- those of the modes with the first so many letters
pub record AreLayersBelow (n : NetworkLists) (h : HierarchyLists) (crossings : List ℕ) (count : ℕ) (layers : List CoreLayer) : Type 0 where
  pub many : length layers ≡ count
  pub each : (letter : ℕ) (layer : CoreLayer) → slice_get layers letter ≡ Some layer → IsCoreLayer n h letter layer.sheet × AreGates layer.sheet.slope.nodes.items crossings layer.gates.items

-- and one more
pub layer_more : (n : NetworkLists) (h : HierarchyLists) (crossings : List ℕ) (count : ℕ) (layers : List CoreLayer) (layer : CoreLayer) → AreLayersBelow n h crossings count layers → IsCoreLayer n h count layer.sheet
    → AreGates layer.sheet.slope.nodes.items crossings layer.gates.items → AreLayersBelow n h crossings (count + 1) (layers ++ layer ∷ [])
layer_more n h crossings count layers layer below is gates = record {
  many = omega (arith, below.many, length-append layers (layer ∷ []));
  each = each_more (λ letter (x : CoreLayer). IsCoreLayer n h letter x.sheet × AreGates x.sheet.slope.nodes.items crossings x.gates.items) layers layer below.each
      (subst (λ k. IsCoreLayer n h k layer.sheet) (sym below.many) is, gates);
}
