-- One contraction over what contraction keeps.
use Rattle.plan_base.proofs.Common.{◌≡◌, ◌≢◌, ℕ, suc, ◌+◌, ◌-◌, ◌<◌, ◌≤◌, ◌^◌, ◌⊎◌, inl, inr, List, [], ◌∷◌, ◌++◌, ◌∙◌, length, map, get_or, Some, refl, sym, ap, subst, arith, All, AllPairs, Contains, Vec, slice_get, Global, cases_order, length_push, All-contains, All-push, All-cons, Contains-get_or, all_pairs_push}
use Rattle.mode_network.specs.{NetworkLists.NetworkLists, IsNetwork}
use Rattle.hierarchy.specs.{Entry, Hop, AreHops, total, nodes_along, HierarchyLists, WitnessLists, IsCore, IsContracted, first_of, last_of, FitsWitness, HasEntry, HasLighter, IsSound, IsFree}
use Rattle.hierarchy.proofs.{HopLemmas.hops_weaker, SoundLemmas.fits, ContractionLemmas.height_kept, ContractionLemmas.height_next}
use Rattle.witness.specs.{Edge, row_at, HasEdge, AreEdgeRows, IsWalkWithin, NoWalkWithin, declared.workspace.Workspace.Workspace, inside.IsSearch, inside.NobodyBusy}
use Rattle.contractor.specs.{declared.way.Way.Way, declared.layer.Layer.Layer, inside.IsGood, inside.IsLive, inside.IsWayPast, inside.AreWays, inside.IsPartway, inside.IsPut, inside.shortcut_of, inside.HaveOtherEnds, inside.HaveOtherWays, inside.IsTrueWeight, inside.IsLayer, inside.StandsForEntry, inside.FitsRows, inside.CanPut, inside.lists_of, inside.lists_with, inside.HaveOtherKeys, inside.IsForWay, inside.AreWalks, inside.IsState, inside.IsBridging, inside.IsEndOf, inside.IsSearchFor, inside.HasWithin, inside.IsInRows, inside.AreFirst, inside.AreSecond, inside.AreWaysOf, inside.into_at, declared.way.Side.Side}
use Rattle.contractor.proofs.{WayLemmas.are_ways, ListLemmas.place_of, ListLemmas.contains_place, LiveLemmas.core_more, StepLemmas.light, StepLemmas.by_shortcut, StepLemmas.by_witness, StepLemmas.partway_begins, StepLemmas.partway_ends}

-- ---- rows and entries

module _ (order : List ℕ) (layer : Layer) (is : IsLayer order layer) where
  fits_entry : (e : Entry) → Contains layer.entries.items e → FitsRows (length layer.rows.items) e
  fits_entry e there = All-contains (FitsRows (length layer.rows.items)) layer.entries.items e is.fit there

  pub rows_are : AreEdgeRows layer.rows.items
  rows_are = record {
    few = is.few;
    edges = λ u edge there. (let l = is.listed u edge there in
        let entry = l.entry in
        let f = fits_entry entry (contains_place layer.entries.items edge.entry entry l.at) in
        record {
          to = subst (λ v. v < length layer.rows.items) (sym (ap (λ (y : Edge). y.to) l.is)) f.to;
          positive = subst (λ w. 0 < w) (sym (ap (λ (y : Edge). y.weight) l.is)) f.positive;
          light = subst (λ w. w < 2 ^ 56) (sym (ap (λ (y : Edge). y.weight) l.is)) f.light;
        });
  }

  -- the hierarchy that has these entries and this order
  module _ (h : HierarchyLists) (order_is : h.order ≡ order) (entries_are : h.entries ≡ layer.entries.items) where
    edge_live : (u v w : ℕ) → HasEdge layer.rows.items u v w → IsLive h u v w
    edge_live u v w (number, there) =
        let edge : Edge = record { to = v; entry = number; weight = w } in
        let l = is.listed u edge there in
        let e = l.entry in
        let to : e.to ≡ v = sym (ap (λ (y : Edge). y.to) l.is) in
        let weight : e.weight ≡ w = sym (ap (λ (y : Edge). y.weight) l.is) in
        let listed : HasEntry layer.entries.items e.from e.to e.weight = (e.via, contains_place layer.entries.items number e l.at) in
        record {
          entry = subst (λ es. HasEntry es u v w) (sym entries_are) (subst (HasEntry layer.entries.items u v) weight (subst (λ y. HasEntry layer.entries.items u y e.weight) to (subst (λ y. HasEntry layer.entries.items y e.to e.weight) l.from listed)));
          core_from = subst (λ o. IsCore o u) (sym order_is) (subst (IsCore order) l.from l.core_from);
          core_to = subst (λ o. IsCore o v) (sym order_is) (subst (IsCore order) to l.core_to);
        }

    pub lighter_entry : (u v most : ℕ) → HasWithin (row_at layer.rows.items u) v most → HasLighter layer.entries.items u v most
    lighter_entry u v most (number, weight, there, le) = (weight, subst (λ es. HasEntry es u v weight) entries_are (edge_live u v weight (number, there)).entry, le)

    live_edge : (u v w : ℕ) → IsLive h u v w → HasEdge layer.rows.items u v w
    live_edge u v w live =
        let has = subst (λ es. HasEntry es u v w) entries_are live.entry in
        let e : Entry = record { from = u; to = v; weight = w; via = has.0 } in
        let at = place_of layer.entries.items e has.1 in
        (at.0, (is.all at.0 e at.1 (subst (λ o. IsCore o u) order_is live.core_from) (subst (λ o. IsCore o v) order_is live.core_to)).out)

    pub none_live : (u v limit : ℕ) → NoWalkWithin layer.rows.items u v limit → (hops : List Hop) → AreHops (IsLive h) u hops v → limit < total hops
    none_live u v limit none hops walk = none hops (hops_weaker (IsLive h) (HasEdge layer.rows.items) live_edge hops u v walk)

    pub walk_live : (hops : List Hop) (u v : ℕ) → AreHops (HasEdge layer.rows.items) u hops v → AreHops (IsLive h) u hops v
    walk_live hops u v walk = hops_weaker (HasEdge layer.rows.items) (IsLive h) edge_live hops u v walk

-- ---- walks

module _ (order : List ℕ) (x : ℕ) (ways : List Way) (k : ℕ) (walks : List WitnessLists) (core : IsCore order x) (are : AreWalks order x ways k walks) where
  later : (walk : WitnessLists) → IsContracted order walk.below ⊎ ((walk.below ≡ x) × IsForWay ways k walk) → IsContracted order walk.below ⊎ ((walk.below ≡ x) × IsForWay ways (k + 1) walk)
  later walk (inl low) = inl low
  later walk (inr it) = let f = it.1 in inr (it.0, record { place = f.place; before = (let lt = f.before in omega arith); first = f.first; last = f.last })

  pub walks_stay : AreWalks order x ways (k + 1) walks
  walks_stay = record { apart = are.apart; fit = are.fit; each = λ j d low. later (get_or walks j d) (are.each j d low) }

  pub walks_more : AllPairs HaveOtherWays ways → k < length ways → (walk : WitnessLists) → walk.below ≡ x → ((d : Way) → (get_or ways k d).from ≡ first_of walk.nodes) → ((d : Way) → (get_or ways k d).to ≡ last_of walk.nodes) → FitsWitness walk
      → AreWalks order x ways (k + 1) (walks ++ walk ∷ [])
  walks_more other lt walk below first last fits = record {
    apart = all_pairs_push HaveOtherKeys walks walk are.apart (λ j d low. differs j d low);
    fit = All-push FitsWitness walks walk are.fit fits;
    each = All-push (λ (w : WitnessLists). IsContracted order w.below ⊎ ((w.below ≡ x) × IsForWay ways (k + 1) w)) walks walk walks_stay.each
        (inr (below, record { place = k; before = omega arith; first = first; last = last }));
  } where
    differs : (j : ℕ) (d : WitnessLists) → j < length walks → HaveOtherKeys (get_or walks j d) walk
    differs j d low same_below same_first same_last = elim (are.each j d low) [
      | inl contracted ↦ (let now : IsContracted order x = subst (IsContracted order) (same_below ∙ below) contracted in omega arith)
      | inr it ↦ (let f = it.1 in
          let w : Way = record { first = 0; from = 0; sum = 0; to = 0 } in
          other f.place k w f.before lt (f.first w ∙ same_first ∙ sym (first w)) (f.last w ∙ same_last ∙ sym (last w)))
    ]

-- all are for contracted nodes, once x is one
pub walks_end : (order : List ℕ) (x : ℕ) (ways : List Way) (k : ℕ) (walks : List WitnessLists) → IsCore order x → AreWalks order x ways k walks → AreWalks (order ++ x ∷ []) 0 [] 0 walks
walks_end order x ways k walks core are = record {
  apart = are.apart;
  fit = are.fit;
  each = λ j d low. elim (are.each j d low) [
    | inl contracted ↦ (let same = height_kept order x (get_or walks j d).below contracted in inl (omega (arith, length_push order x)))
    | inr it ↦ (let next = height_next order x core in inl (subst (IsContracted (order ++ x ∷ [])) (sym it.0) (omega (arith, length_push order x))))
  ];
}

-- before the first way
pub walks_begin : (order : List ℕ) (x : ℕ) (ways : List Way) (walks : List WitnessLists) → AreWalks order 0 [] 0 walks → AreWalks order x ways 0 walks
walks_begin order x ways walks are = record {
  apart = are.apart;
  fit = are.fit;
  each = λ j d low. elim (are.each j d low) [
    | inl contracted ↦ inl contracted
    | inr it ↦ absurd (let f = it.1 in let lt = f.before in omega arith)
  ];
}

-- the nodes of a walk between different nodes
walk_nodes : (rows : List (Vec Edge Global)) → AreEdgeRows rows → (hops : List Hop) (u v : ℕ) → AreHops (HasEdge rows) u hops v → u < 2 ^ 24 → All (λ w. w < 2 ^ 24) (nodes_along u hops)
walk_nodes rows are [] u v walk low = λ j d lt. one j d lt where
  one : (j d : ℕ) → j < 1 → get_or (u ∷ []) j d < 2 ^ 24
  one j d lt = let first : j ≡ 0 = omega arith in subst (λ i. get_or (u ∷ []) i d < 2 ^ 24) (sym first) low
walk_nodes rows are (hop ∷ hops) u v (edge, walk) low = All-cons (λ w. w < 2 ^ 24) u (nodes_along hop.to hops) low
    (walk_nodes rows are hops hop.to v walk (let e = are.edges u (record { to = hop.to; entry = edge.0; weight = hop.weight }) edge.1 in let few = are.few in let to = e.to in omega arith))

last_more : (u w : ℕ) (ns : List ℕ) → last_of (u ∷ w ∷ ns) ≡ last_of (w ∷ ns)
last_more u w ns =
    let a : length (u ∷ w ∷ ns) - 1 ≡ suc (length ns) = omega arith in
    let b : length (w ∷ ns) - 1 ≡ length ns = omega arith in
    ap (λ k. get_or (u ∷ w ∷ ns) k 0) a ∙ ap (λ k. get_or (w ∷ ns) k 0) (sym b)

last_is : (rows : List (Vec Edge Global)) (hops : List Hop) (u v : ℕ) → AreHops (HasEdge rows) u hops v → last_of (nodes_along u hops) ≡ v
last_is rows [] u v walk = sym walk
last_is rows (hop ∷ hops) u v (edge, walk) = last_more u hop.to (map (λ (h : Hop). h.to) hops) ∙ last_is rows hops hop.to v walk

pub walk_fits : (rows : List (Vec Edge Global)) (x u v limit : ℕ) (nodes : List ℕ) → AreEdgeRows rows → x < length rows → u < length rows → u ≢ v → IsWalkWithin rows u v limit nodes → FitsWitness (record { below = x; nodes = nodes })
walk_fits rows x u v limit nodes are low inside differ w = record {
  below = (let few = are.few in omega arith);
  nodes = subst (λ ns. All (λ y. y < 2 ^ 24) ns) (sym w.are) (walk_nodes rows are w.hops u v w.walk (let few = are.few in omega arith));
  is_walk = subst (λ ns. 2 ≤ length ns) (sym w.are) (two w.hops w.walk);
} where
  two : (hops : List Hop) → AreHops (HasEdge rows) u hops v → 2 ≤ length (nodes_along u hops)
  two [] walk = absurd (differ (sym walk))
  two (hop ∷ hops) walk = omega arith

-- x and the ends of a way by it have rows
pub record FitsSearch (nodes x : ℕ) (way : Way) : Type 0 where
  pub node : x < nodes
  pub from : way.from < nodes
  pub to : way.to < nodes
  pub positive : 0 < way.sum
  pub light : way.sum < 2 ^ 57

way_fits : (h : HierarchyLists) (x nodes : ℕ) (way : Way) → IsWayPast h x way → All (FitsRows nodes) h.entries → FitsSearch nodes x way
way_fits h x nodes way w fit =
    let a = fit_of way.from x way.first w.is_first in
    let b = fit_of x way.to w.second w.is_second in
    let s = w.sum in
    let p = a.light in
    let q = b.light in
    let r = a.positive in
    record { node = a.to; from = a.from; to = b.to; positive = omega arith; light = omega arith }
  where
    fit_of : (u v w : ℕ) (has : HasEntry h.entries u v w) → FitsRows nodes (record { from = u; to = v; weight = w; via = has.0 })
    fit_of u v w has = All-contains (FitsRows nodes) h.entries (record { from = u; to = v; weight = w; via = has.0 }) fit has.1

-- ---- one way more

module _ (n : NetworkLists) (x : ℕ) (ways : List Way) (k : ℕ) (old : Layer) (network : IsNetwork n) (state : IsBridging n x ways k old)
    (way : Way) (lt : k < length ways) (is : (d : Way) → get_or ways k d ≡ way) where
  abbrev h : HierarchyLists
  h = state.before

  abbrev here : IsWayPast h x way
  here = subst (IsWayPast h x) (is way) (state.are.each k way lt)

  pub inside : FitsSearch (length old.rows.items) x way
  inside = way_fits h x (length old.rows.items) way here state.fit

  from_is : way.from ≢ x
  from_is same = (fits n h state.good.sound way.from x way.first here.is_first).differ same

  to_is : way.to ≢ x
  to_is same = (fits n h state.good.sound x way.to here.second here.is_second).differ (sym same)

  pub left_from : IsCore (old.order.items ++ x ∷ []) way.from
  left_from = subst (λ o. IsCore (o ++ x ∷ []) way.from) (sym state.order) (core_more h.order x way.from from_is here.core_from)

  pub left_to : IsCore (old.order.items ++ x ∷ []) way.to
  left_to = subst (λ o. IsCore (o ++ x ∷ []) way.to) (sym state.order) (core_more h.order x way.to to_is here.core_to)

  module _ (none : NoWalkWithin old.rows.items way.from way.to way.sum) where
    no_live : (hops : List Hop) → AreHops (IsLive (lists_with x old)) way.from hops way.to → way.sum < total hops
    no_live = none_live (old.order.items ++ x ∷ []) old state.layer (lists_with x old) refl refl way.from way.to way.sum none

    pub can_put : CanPut (length old.rows.items) way
    can_put = record {
      differ = here.differ;
      from = inside.from;
      to = inside.to;
      positive = inside.positive;
      light = light n h x ways k (lists_with x old) network state.good.sound state.core state.are state.partway way lt is no_live;
    }

    pub shortcut_more : (new : Layer) → length new.rows.items ≡ length old.rows.items → new.order.items ≡ old.order.items → new.witnesses ≡ old.witnesses → IsPut old.entries.items new.entries.items (shortcut_of x way) → IsLayer (old.order.items ++ x ∷ []) new → IsBridging n x ways (k + 1) new
    shortcut_more new count order witnesses put layer = record {
      before = h;
      good = state.good;
      fit = subst (λ m. All (FitsRows m) h.entries) (sym count) state.fit;
      core = state.core;
      are = state.are;
      order = order ∙ state.order;
      partway = by_shortcut n h x ways k (lists_with x old) network state.good.sound state.core state.are state.partway way lt is no_live (lists_with x new) (ap (λ o. o ++ x ∷ []) order) witnesses put;
      layer = subst (λ o. IsLayer (o ++ x ∷ []) new) (sym order) layer;
      walks = subst (λ o. AreWalks o x ways (k + 1) new.witnesses) (sym order) (subst (λ ws. AreWalks old.order.items x ways (k + 1) ws) (sym witnesses)
          (walks_stay old.order.items x ways k old.witnesses (subst (λ o. IsCore o x) (sym state.order) state.core) state.walks));
    }

  pub witness_more : (witnesses : List WitnessLists) (nodes : List ℕ) → witnesses ≡ old.witnesses ++ record { below = x; nodes = nodes } ∷ [] → IsWalkWithin old.rows.items way.from way.to way.sum nodes
      → IsBridging n x ways (k + 1) (record old { witnesses = witnesses })
  witness_more witnesses nodes more found = record {
    before = h;
    good = state.good;
    fit = state.fit;
    core = state.core;
    are = state.are;
    order = state.order;
    partway = by_witness n h x ways k (lists_with x old) network state.good.sound state.core state.are state.partway way lt is found.hops
        (walk_live (old.order.items ++ x ∷ []) old state.layer (lists_with x old) refl refl found.hops way.from way.to found.walk) found.within (lists_with x (record old { witnesses = witnesses })) refl refl
        (more ∙ ap (λ ns. old.witnesses ++ record { below = x; nodes = ns } ∷ []) found.are);
    layer = same_layer state.layer;
    walks = subst (λ ws. AreWalks old.order.items x ways (k + 1) ws) (sym more)
        (walks_more old.order.items x ways k old.witnesses (subst (λ o. IsCore o x) (sym state.order) state.core) state.walks state.are.apart lt (record { below = x; nodes = nodes }) refl
        (λ d. ap (λ (w : Way). w.from) (is d) ∙ sym (ap first_of found.are)) (λ d. ap (λ (w : Way). w.to) (is d) ∙ sym (ap last_of found.are ∙ last_is old.rows.items found.hops way.from way.to found.walk))
        (walk_fits old.rows.items x way.from way.to way.sum nodes (rows_are (old.order.items ++ x ∷ []) old state.layer) inside.node inside.from here.differ found));
  } where
    same_layer : IsLayer (old.order.items ++ x ∷ []) old → IsLayer (old.order.items ++ x ∷ []) (record old { witnesses = witnesses })
    same_layer l = record { few = l.few; count = l.count; fit = l.fit; apart = l.apart; listed = l.listed; all = l.all; into_fit = l.into_fit }

-- the search goes as far as the last way from its start, and so for each of them
pub search_for : (n : NetworkLists) (x : ℕ) (ways : List Way) (k : ℕ) (old : Layer) → IsBridging n x ways k old → (place end j : ℕ) (d : Way) → IsEndOf ways place end → place ≤ j → j < end → (w : Workspace)
    → IsSearch old.rows.items w.most NobodyBusy w → w.start ≡ (get_or ways place d).from → w.most ≡ (get_or ways (end - 1) d).sum → IsSearchFor old (get_or ways j d) w
search_for n x ways k old state place end j d is le lt w search start most = record {
  search = search;
  start = start ∙ sym (is.same j d le lt);
  far = (let far = by_place (cases_order j (end - 1)) in omega arith);
  light = (let last = way_fits state.before x (length old.rows.items) (get_or ways (end - 1) d) (state.are.each (end - 1) d last_in) state.fit in let light = last.light in omega arith);
} where
  last_in : end - 1 < length ways
  last_in = (let a = is.after in let b = is.inside in omega arith)

  by_place : (j ≡ end - 1) ⊎ (j < end - 1) ⊎ (end - 1 < j) → (get_or ways j d).sum ≤ (get_or ways (end - 1) d).sum
  by_place (inl same) = subst (λ i. (get_or ways j d).sum ≤ (get_or ways i d).sum) same (omega arith)
  by_place (inr (inl lower)) = (state.are.rising j (end - 1) d lower last_in).sum (is.same j d le lt ∙ sym (is.same (end - 1) d (omega arith) (let a = is.after in omega arith)))
  by_place (inr (inr higher)) = absurd (omega arith)

-- ---- the begin and the end

pub bridging_begins : (n : NetworkLists) (h : HierarchyLists) (x : ℕ) (ways : List Way) (layer : Layer) → IsGood n h → h ≡ lists_of layer → IsCore h.order x → AreWays h x ways → IsLayer (layer.order.items ++ x ∷ []) layer → AreWalks layer.order.items 0 [] 0 layer.witnesses
    → IsBridging n x ways 0 layer
bridging_begins n h x ways layer good same core are is walks = record {
  before = h;
  good = good;
  fit = subst (λ (g : HierarchyLists). All (FitsRows (length layer.rows.items)) g.entries) (sym same) is.fit;
  core = core;
  are = are;
  order = sym (ap (λ (l : HierarchyLists). l.order) same);
  partway = subst (λ (g : HierarchyLists). IsPartway n g x ways 0 (lists_with x layer)) (sym same) (partway_begins n (lists_of layer) x ways (subst (λ (g : HierarchyLists). All (IsTrueWeight n) g.entries) same good.true_weights));
  layer = is;
  walks = walks_begin layer.order.items x ways layer.witnesses walks;
}

pub contracted : (n : NetworkLists) (x : ℕ) (ways : List Way) (layer new : Layer) → IsFree n x → IsBridging n x ways (length ways) layer
    → new.order.items ≡ layer.order.items ++ x ∷ [] → new.entries.items ≡ layer.entries.items → new.witnesses ≡ layer.witnesses → new.rows.items ≡ layer.rows.items → new.into.items ≡ layer.into.items → IsState n new
contracted n x ways layer new free state order entries witnesses rows into = record {
  good = record {
    sound = subst (IsSound n) (sym lists) (partway_ends n state.before x ways (length ways) (lists_with x layer) state.good.sound state.core free state.are (omega arith) state.partway);
    true_weights = subst (λ es. All (IsTrueWeight n) es) (sym entries) state.partway.true_weights;
    apart = subst (λ es. AllPairs HaveOtherEnds es) (sym entries) state.layer.apart;
  };
  layer = subst (λ o. IsLayer o new) (sym order) (moved state.layer);
  walks = subst (λ o. AreWalks o 0 [] 0 new.witnesses) (sym order) (subst (λ ws. AreWalks (layer.order.items ++ x ∷ []) 0 [] 0 ws) (sym witnesses)
      (walks_end layer.order.items x ways (length ways) layer.witnesses (subst (λ o. IsCore o x) (sym state.order) state.core) state.walks));
} where
  lists : lists_of new ≡ lists_with x layer
  lists = ap (λ o. made o new.entries.items new.witnesses) order ∙ ap (λ es. made (layer.order.items ++ x ∷ []) es new.witnesses) entries ∙ ap (λ ws. made (layer.order.items ++ x ∷ []) layer.entries.items ws) witnesses where
    made : List ℕ → List Entry → List WitnessLists → HierarchyLists
    made o es ws = record { order = o; entries = es; witnesses = ws }

  moved : IsLayer (layer.order.items ++ x ∷ []) layer → IsLayer (layer.order.items ++ x ∷ []) new
  moved l = record {
    few = subst (λ (rs : List (Vec Edge Global)). length rs ≤ 2 ^ 24) (sym rows) l.few;
    count = ap length into ∙ l.count ∙ sym (ap length rows);
    fit = subst (λ (rs : List (Vec Edge Global)). All (FitsRows (length rs)) new.entries.items) (sym rows) (subst (λ es. All (FitsRows (length layer.rows.items)) es) (sym entries) l.fit);
    apart = subst (λ es. AllPairs HaveOtherEnds es) (sym entries) l.apart;
    listed = λ u e there. subst (λ es. StandsForEntry (layer.order.items ++ x ∷ []) es u e) (sym entries) (l.listed u e (subst (λ (rs : List (Vec Edge Global)). Contains (row_at rs u) e) rows there));
    all = λ number e at from to. subst (λ (rs : List (Vec Edge Global)). IsInRows rs new.into.items number e) (sym rows) (subst (λ (is : List (Vec ℕ Global)). IsInRows layer.rows.items is number e) (sym into)
        (l.all number e (subst (λ es. slice_get es number ≡ Some e) entries at) from to));
    into_fit = λ v u there. subst (λ (rs : List (Vec Edge Global)). u < length rs) (sym rows) (l.into_fit v u (subst (λ (is : List (Vec ℕ Global)). Contains (into_at is v) u) into there));
  }

-- ---- after a node was cut out

module _ (n : NetworkLists) (old new : Layer) (x : ℕ) (state : IsState n old) (order : new.order.items ≡ old.order.items) (entries : new.entries.items ≡ old.entries.items) (witnesses : new.witnesses ≡ old.witnesses)
    (layer : IsLayer (old.order.items ++ x ∷ []) new) where
  fits_now : (u v w : ℕ) (has : HasEntry old.entries.items u v w) → FitsRows (length new.rows.items) (record { from = u; to = v; weight = w; via = has.0 })
  fits_now u v w has = fits_entry (old.order.items ++ x ∷ []) new layer (record { from = u; to = v; weight = w; via = has.0 }) (subst (λ es. Contains es (record { from = u; to = v; weight = w; via = has.0 })) (sym entries) has.1)

  module _ (sides : List Side) (before : AreFirst old.order.items old.entries.items x sides) where
    side_fits : (k : ℕ) (d : Side) (low : k < length sides) → FitsRows (length new.rows.items) (record { from = (get_or sides k d).node; to = x; weight = (get_or sides k d).weight; via = (before.each (get_or sides k d) (Contains-get_or sides k d low)).0.0 })
    side_fits k d low = let s = get_or sides k d in fits_now s.node x s.weight (before.each s (Contains-get_or sides k d low)).0

    pub sides_inside : All (λ (s : Side). s.node < length new.rows.items) sides
    sides_inside k d low = (side_fits k d low).from

    pub sides_light : All (λ (s : Side). s.weight < 2 ^ 56) sides
    sides_light k d low = (side_fits k d low).light

  pub edges_light : (edges : List Edge) → AreSecond old.order.items old.entries.items x edges → All (λ (e : Edge). e.weight < 2 ^ 56) edges
  edges_light edges are k d low = let e = get_or edges k d in (fits_now x e.to e.weight (are.each e (Contains-get_or edges k d low)).0).light

  pub ways_now : (first : List Side) (second : List Edge) (ways : List Way) → AreFirst old.order.items old.entries.items x first → AreSecond old.order.items old.entries.items x second → AreWaysOf new.rows.items first second ways → AreWays (lists_of new) x ways
  ways_now first second ways before after are = are_ways (lists_of new) x new.rows.items first second ways layer.apart
      (lighter_entry (old.order.items ++ x ∷ []) new layer (record { order = old.order.items ++ x ∷ []; entries = new.entries.items; witnesses = [] }) refl refl)
      (subst (λ o. AreFirst o new.entries.items x first) (sym order) (subst (λ es. AreFirst old.order.items es x first) (sym entries) before))
      (subst (λ o. AreSecond o new.entries.items x second) (sym order) (subst (λ es. AreSecond old.order.items es x second) (sym entries) after)) are

  pub bridging_now : (ways : List Way) → IsCore old.order.items x → AreWays (lists_of new) x ways → IsBridging n x ways 0 new
  bridging_now ways core are = bridging_begins n (lists_of new) x ways new good refl (subst (λ o. IsCore o x) (sym order) core) are (subst (λ o. IsLayer (o ++ x ∷ []) new) (sym order) layer)
      (subst (λ o. AreWalks o 0 [] 0 new.witnesses) (sym order) (subst (λ ws. AreWalks old.order.items 0 [] 0 ws) (sym witnesses) state.walks)) where
        good : IsGood n (lists_of new)
        good = subst (λ o. IsGood n (record { order = o; entries = new.entries.items; witnesses = new.witnesses })) (sym order)
            (subst (λ es. IsGood n (record { order = old.order.items; entries = es; witnesses = new.witnesses })) (sym entries)
            (subst (λ ws. IsGood n (record { order = old.order.items; entries = old.entries.items; witnesses = ws })) (sym witnesses) state.good))
