-- The road nodes of one mode, and their points.
use Rattle.plan_base.proofs.Common.{◌≡◌, ℕ, ℤ, zero, suc, ◌<◌, ◌≤◌, ◌<ℤ◌, ◌-◌, ◌^◌, ◌&&◌, ◌∙◌, ◌⊎◌, inl, inr, Bool, true, false, int_eq, List, [], ◌∷◌, length, cond, Option, Some, None, refl, ap, ap₂, sym, subst, arith, All, Contains, filter, slice_get, slice_index_or, option_map, IsNonDecreasingBy, IsPartitionPoint, ordering_then, ordering_index, int_cmp, nat_cmp, MatchOrdering, Ordering, Less, Equal, Greater, int_ranks, ranks as nat_ranks, Decides-int_eq, get_or-map, length-map, All-contains, All-contains_itself, All-filter, All-map, All-weaker, filter_passes, list_any_at, none-some, same_Some, slice_get_cases, slice_get-get_or, slice_get_within, get_or_from_slice_get}
use Rattle.std.proofs.lemmas.List.Folds.{Any-from_list_any}
use Rattle.plan_base.specs.{Mode, number_of_mode, Place}
use Rattle.geo_length.specs.{Point, IsClosest, IsNearest}
use Rattle.mode_network.specs.{Node, NodeKey, Road, Stop, Switch, mode_of, IsAscending, IsRoad, is_same_mode, node_cmp, rank_of, AreExactly, IsCopyIn, IsNearCopyIn, IsNearestIn, layer_nodes, layer_points, point_of, road_points, HoldSame, has_point, is_same_point}
use Rattle.mode_network.proofs.{RuleLemmas.both, RuleLemmas.nodes_total, RuleLemmas.mode_by_number, RuleLemmas.same_mode_is, RuleLemmas.mode_is_same, FindLemmas.answers_rise, FindLemmas.not_before, FindLemmas.not_there, FindLemmas.self_equal, NearLemmas.nearest_found, NearLemmas.same_id, NearLemmas.same_nearest, NearLemmas.same_point}

-- ---- points of a list

same_tested : (p : Point) → is_same_point p p ≡ true
same_tested p = rw ((Decides-int_eq p.0 p.0).1 refl, (Decides-int_eq p.1.lat p.1.lat).1 refl, (Decides-int_eq p.1.lon p.1.lon).1 refl) refl

tested_same : (p q : Point) → is_same_point p q ≡ true → p ≡ q
tested_same p q e =
    let parts = both _ _ e in
    same_point p q ((Decides-int_eq p.0 q.0).0 parts.0) parts.1

has_held : (points : List Point) (p : Point) → Contains points p → has_point points p ≡ true
has_held points p (k, lt, is) = list_any_at (is_same_point p) points k p lt (ap (is_same_point p) is ∙ same_tested p)

held_has : (points : List Point) (p : Point) → has_point points p ≡ true → Contains points p
held_has points p e =
    let (k, q, lt, is, same) = Any-from_list_any (is_same_point p) points e in
    subst (Contains points) (sym (tested_same p q same)) (k, lt, is)

-- what passes a filter is left by it
left_by : {X : Type 0} (test : X → Bool) (xs : List X) (x : X) → Contains xs x → test x ≡ true → Contains (filter test xs) x
left_by test [] x (k, lt, is) passes = absurd (omega arith)
left_by test (y ∷ xs) x (zero, lt, is) passes = rw (ap test is ∙ passes) (zero, omega arith, is)
left_by test (y ∷ xs) x (suc k, lt, is) passes = by_first (test y) (left_by test xs x (k, omega arith, is) passes)
  where
    by_first : (first : Bool) → Contains (filter test xs) x → Contains (cond first (y ∷ filter test xs) (filter test xs)) x
    by_first true (j, within, at) = (suc j, omega arith, at)
    by_first false held = held

-- the points of the one list that the other has, where all of this are among them
pub had_points : (grid points : List Point) → All (Contains grid) points → HoldSame (filter (has_point points) grid) points
had_points grid points all = record {
  given = All-weaker (λ p. has_point points p ≡ true) (Contains points) (held_has points) (filter (has_point points) grid) (filter_passes (has_point points) grid);
  all = λ k d lt.
      let p = slice_index_or points k d in
      left_by (has_point points) grid p (all k d lt) (has_held points p (All-contains_itself points k d lt));
}

-- ---- the nodes of a layer

key_in : (mode : Mode) (key : NodeKey) → IsRoad key → is_same_mode (mode_of key) (Some mode) ≡ true → key ≡ Road mode (rank_of key).0
key_in mode (Road other id) road e =
    ap (λ m. Road m id) (same_mode_is other mode e)
key_in mode (Stop stop) road e = absurd road
key_in mode (Switch id) road e = absurd road

in_mode : (mode : Mode) (id : ℤ) (key : NodeKey) → key ≡ Road mode id → is_same_mode (mode_of key) (Some mode) ≡ true
in_mode mode id key is = rw is (mode_is_same mode)

-- the node at a place of the roads, where it has a key
node_at : (roads : List Node) (m : Mode) (id : ℤ) (v : ℕ) → IsCopyIn roads m id v → (node : Node) × (slice_get roads v ≡ Some node) × (node.key ≡ Road m id)
node_at roads m id v copy = on_node (slice_get roads v) refl copy
  where
    on_node : (o : Option Node) → slice_get roads v ≡ o → option_map (λ (node : Node). node.key) o ≡ Some (Road m id) → (node : Node) × (slice_get roads v ≡ Some node) × (node.key ≡ Road m id)
    on_node None is e = absurd (none-some _ e)
    on_node (Some node) is e = (node, is, same_Some _ _ e)

module _ (roads : List Node) (mode : Mode) where
  -- a road node of the mode is a point of its layer
  layer_has : (id : ℤ) (v : ℕ) (node : Node) → slice_get roads v ≡ Some node → node.key ≡ Road mode id → Contains (layer_points roads mode) (id, node.place)
  layer_has id v node is key =
      let within = slice_get_within roads v node is in
      let there = get_or_from_slice_get roads v node node is in
      let (k, lt, at) = left_by (λ (node : Node). is_same_mode (mode_of node.key) (Some mode)) roads node (v, within, there) (in_mode _ id node.key key) in
      let point : point_of node ≡ (id, node.place) = ap (λ (key : NodeKey). ((rank_of key).0, node.place)) key in
      (k, rw (length-map (layer_nodes roads mode) point_of) lt, get_or-map point_of (layer_nodes roads mode) k node (id, node.place) lt ∙ (ap point_of at ∙ point))

  -- a point of a layer is a road node of the mode
  pub layer_node : All (λ (node : Node). IsRoad node.key) roads → (p : Point) → Contains (layer_points roads mode) p
      → (v : ℕ) × (node : Node) × (slice_get roads v ≡ Some node) × (node.key ≡ Road mode p.0) × (node.place ≡ p.1)
  layer_node are p (k, lt, is) = on_cases (slice_get_cases (layer_nodes roads mode) k).1
    where
      test : Node → Bool
      test node = is_same_mode (mode_of node.key) (Some mode)

      on_cases : ((x : Node) × (k < length (layer_nodes roads mode)) × (slice_get (layer_nodes roads mode) k ≡ Some x) × (slice_index_or (layer_nodes roads mode) k x ≡ x)) ⊎ ((length (layer_nodes roads mode) ≤ k) × (slice_get (layer_nodes roads mode) k ≡ None))
          → (v : ℕ) × (node : Node) × (slice_get roads v ≡ Some node) × (node.key ≡ Road mode p.0) × (node.place ≡ p.1)
      on_cases (inr (past, none)) = absurd (omega (arith, lt, length-map (layer_nodes roads mode) point_of))
      on_cases (inl (node, within, _, at)) =
          let point : point_of node ≡ p = ap point_of (sym at) ∙ (sym (get_or-map point_of (layer_nodes roads mode) k node p within) ∙ is) in
          let (v, inside, there) = subst (Contains roads) at (All-filter test (Contains roads) roads (All-contains_itself roads) k node within) in
          let same : test node ≡ true = subst (λ (x : Node). test x ≡ true) at (filter_passes test roads k node within) in
          let road = All-contains (λ (x : Node). IsRoad x.key) roads node are (v, inside, there) in
          (v, node, slice_get-get_or roads v node inside ∙ ap Some there, key_in _ node.key road same ∙ ap (λ (q : Point). Road mode q.0) point, ap (λ (q : Point). q.1) point)

-- ---- the search for a road node of a mode

-- a search for an id and a mode
abbrev pub rank_cmp : ℤ × ℕ → Node → Ordering
rank_cmp rank node = ordering_then (int_cmp (rank_of node.key).0 rank.0) (nat_cmp (rank_of node.key).1 rank.1)

same_ranks : (a b : ℤ) (u v : ℕ) → ordering_then (int_cmp a b) (nat_cmp u v) ≡ Equal → (a ≡ b) × (u ≡ v)
same_ranks a b u v e = by_first (int_cmp a b) (int_ranks a b) e
  where
    by_second : (o : Ordering) → MatchOrdering o (u < v) (u ≡ v) (v < u) → o ≡ Equal → u ≡ v
    by_second Less h e = cc
    by_second Equal h e = h
    by_second Greater h e = cc

    by_first : (o : Ordering) → MatchOrdering o (a <ℤ b) (a ≡ b) (b <ℤ a) → ordering_then o (nat_cmp u v) ≡ Equal → (a ≡ b) × (u ≡ v)
    by_first Less h e = cc
    by_first Equal h e = (h, by_second (nat_cmp u v) (nat_ranks u v) e)
    by_first Greater h e = cc

ranked : (mode : Mode) (id : ℤ) (key : NodeKey) → IsRoad key → ((rank_of key).0 ≡ id) × ((rank_of key).1 ≡ number_of_mode mode) → key ≡ Road mode id
ranked mode id (Road other i) road (ids, modes) = ap₂ Road (mode_by_number other mode modes) ids
ranked mode id (Stop stop) road same = absurd road
ranked mode id (Switch i) road same = absurd road

module _ (roads : List Node) (ascend : IsAscending node_cmp roads) (mode : Mode) (id : ℤ) where
  pub key_found : All (λ (node : Node). IsRoad node.key) roads → (place : ℕ) → place < length roads
      → ((d : Node) → rank_cmp (id, number_of_mode mode) (slice_index_or roads place d) ≡ Equal) → IsCopyIn roads mode id place × ((v : ℕ) → IsCopyIn roads mode id v → Some place ≡ Some v)
  key_found are place lt same = on_cases (slice_get_cases roads place).1
    where
      on_cases : ((x : Node) × (place < length roads) × (slice_get roads place ≡ Some x) × (slice_index_or roads place x ≡ x)) ⊎ ((length roads ≤ place) × (slice_get roads place ≡ None))
          → IsCopyIn roads mode id place × ((v : ℕ) → IsCopyIn roads mode id v → Some place ≡ Some v)
      on_cases (inr (past, none)) = absurd (omega arith)
      on_cases (inl (node, _, is, at)) =
          let equal : rank_cmp (id, number_of_mode mode) node ≡ Equal = subst (λ (x : Node). rank_cmp (id, number_of_mode mode) x ≡ Equal) at (same node) in
          let road : IsRoad node.key = subst (λ (x : Node). IsRoad x.key) at (are place node lt) in
          let key = ranked mode id node.key road (same_ranks _ _ _ _ equal) in (
            ap (option_map (λ (n : Node). n.key)) is ∙ ap Some key,
            λ v copy.
                let (other, there, keyed) = node_at roads mode id v copy in
                let inside = slice_get_within roads v other there in
                let at_v : slice_index_or roads v node ≡ other = get_or_from_slice_get roads v other node there in
                let itself : node_cmp node node ≡ Equal = self_equal node_cmp nodes_total node in
                let first : node_cmp (slice_index_or roads place node) node ≡ Equal = ap (λ (x : Node). node_cmp x node) at ∙ itself in
                let second : node_cmp (slice_index_or roads v node) node ≡ Equal =
                ap (λ (x : Node). node_cmp x node) at_v ∙ (ap (λ (k : NodeKey). ordering_then (int_cmp (rank_of k).0 (rank_of node.key).0) (nat_cmp (rank_of k).1 (rank_of node.key).1)) (keyed ∙ sym key) ∙ itself) in
                let not_after = not_before node_cmp nodes_total roads ascend node place v node inside first second in
                let not_first = not_before node_cmp nodes_total roads ascend node v place node lt second first in
                let one : place ≡ v = omega (arith, not_after, not_first) in
                ap Some one,
          )

  pub key_missing : (place : ℕ) → (IsNonDecreasingBy (λ node. ordering_index (rank_cmp (id, number_of_mode mode) node)) roads → IsPartitionPoint (λ node. rank_cmp (id, number_of_mode mode) node ≡ Less) (λ node. rank_cmp (id, number_of_mode mode) node ≡ Greater) roads place)
      → (v : ℕ) → IsCopyIn roads mode id v → None ≡ Some v
  key_missing place ended v copy =
      let (node, is, key) = node_at roads mode id v copy in
      let rank : (id, number_of_mode mode) ≡ rank_of node.key = sym (ap rank_of key) in
      let at = get_or_from_slice_get roads v node node is in
      let found = subst (λ (r : ℤ × ℕ). IsNonDecreasingBy (λ node. ordering_index (rank_cmp r node)) roads → IsPartitionPoint (λ node. rank_cmp r node ≡ Less) (λ node. rank_cmp r node ≡ Greater) roads place) rank ended in
      absurd (not_there node_cmp nodes_total roads ascend node place (found (answers_rise node_cmp nodes_total roads ascend node)) v node (slice_get_within roads v node is)
      (ap (λ (x : Node). node_cmp x node) at ∙ self_equal node_cmp nodes_total node))

-- ---- whether a point passes

bools_same : (a b : Bool) → (a ≡ true → b ≡ true) → (b ≡ true → a ≡ true) → a ≡ b
bools_same true b to from = sym (to refl)
bools_same false true to from = from refl
bools_same false false to from = refl

module _ (roads : List Node) (are : All (λ (node : Node). IsRoad node.key) roads) (mode : Mode) (p : Point) where
  copy_of : Contains (layer_points roads mode) p → (v : ℕ) × (node : Node) × (slice_get roads v ≡ Some node) × IsCopyIn roads mode p.0 v × (node.place ≡ p.1)
  copy_of held =
      let (v, node, is, key, place) = layer_node roads mode are p held in
      (v, node, is, ap (option_map (λ (n : Node). n.key)) is ∙ ap Some key, place)

  pub passes_found : (v : ℕ) (node : Node) → node ≡ slice_index_or roads v node → IsCopyIn roads mode p.0 v
      → ((w : ℕ) → IsCopyIn roads mode p.0 w → Some v ≡ Some w) → (int_eq node.place.lat p.1.lat && int_eq node.place.lon p.1.lon) ≡ has_point (layer_points roads mode) p
  passes_found v node is copy only = bools_same _ _ to from
    where
      both_true : {a b : Bool} → a ≡ true → b ≡ true → (a && b) ≡ true
      both_true first second = rw (first, second) refl

      here : (slice_get roads v ≡ Some node) × (node.key ≡ Road mode p.0)
      here =
          let (other, there, key) = node_at roads mode p.0 v copy in
          let same : other ≡ node = sym (get_or_from_slice_get roads v other node there) ∙ sym is in
          (there ∙ ap Some same, ap (λ (n : Node). n.key) (sym same) ∙ key)

      to : (int_eq node.place.lat p.1.lat && int_eq node.place.lon p.1.lon) ≡ true → has_point (layer_points roads mode) p ≡ true
      to e = has_held _ p (subst (Contains (layer_points roads mode)) (same_point (p.0, node.place) p refl e) (layer_has roads mode p.0 v node here.0 here.1))

      from : has_point (layer_points roads mode) p ≡ true → (int_eq node.place.lat p.1.lat && int_eq node.place.lon p.1.lon) ≡ true
      from e =
          let (w, other, there, found, place) = copy_of (held_has _ p e) in
          let one : v ≡ w = same_Some v w (only w found) in
          let same : node ≡ other = same_Some node other (sym here.0 ∙ (ap (slice_get roads) one ∙ there)) in
          let at : node.place ≡ p.1 = ap (λ (n : Node). n.place) same ∙ place in
          rw at (both_true ((Decides-int_eq p.1.lat p.1.lat).1 refl) ((Decides-int_eq p.1.lon p.1.lon).1 refl))

  pub passes_missing : ((w : ℕ) → IsCopyIn roads mode p.0 w → None ≡ Some w) → false ≡ has_point (layer_points roads mode) p
  passes_missing none = bools_same _ _ (λ e. cc) (λ e.
      let (w, other, there, found, place) = copy_of (held_has _ p e) in
      absurd (none-some w (none w found)))

-- ---- the nearest of a layer

-- what the points of all road nodes have, those of a layer have
layer_all : (roads : List Node) (mode : Mode) (P : Point → Type 0) → All P (road_points roads) → All P (layer_points roads mode)
layer_all roads mode P all =
    All-map P point_of (layer_nodes roads mode)
    (All-filter (λ (node : Node). is_same_mode (mode_of node.key) (Some mode)) (λ node. P (point_of node)) roads (λ k d lt.
    subst P (get_or-map point_of roads k d (point_of d) lt) (all k (point_of d) (rw (length-map roads point_of) lt))))

pub nearest_in_layer : (grid : List Point) (roads : List Node) (mode : Mode) (place : Place) (nearest : Option (ℤ × ℕ)) → HoldSame grid (road_points roads)
    → IsNearest (filter (has_point (layer_points roads mode)) grid) place (2 ^ 64 - 1) nearest → IsNearestIn roads mode place nearest
nearest_in_layer grid roads mode place nearest same h =
    let kept = had_points grid (layer_points roads mode) (layer_all roads mode (Contains grid) same.all) in
    nearest_found (layer_nodes roads mode) place nearest (same_nearest _ _ kept place (2 ^ 64 - 1) nearest h)

-- where the nearest is near enough, its copy is that of the place and the mode
pub near_copy_in : (roads : List Node) (mode : Mode) (place : Place) (id : ℤ) (mm : ℕ) → IsClosest (layer_points roads mode) place id mm → mm ≤ 2000000
    → (range : Option (ℕ × ℕ)) → AreExactly (IsCopyIn roads mode id) range → AreExactly (IsNearCopyIn roads mode place) range
near_copy_in roads mode place id mm nearest near range copies = on_range range copies
  where
    of_id : (v : ℕ) → IsNearCopyIn roads mode place v → IsCopyIn roads mode id v
    of_id v copy = subst (λ i. IsCopyIn roads mode i v) (same_id (layer_points roads mode) place copy.id id copy.mm mm copy.nearest nearest) copy.copy

    on_range : (range : Option (ℕ × ℕ)) → AreExactly (IsCopyIn roads mode id) range → AreExactly (IsNearCopyIn roads mode place) range
    on_range (Some range) (some, all) = (some, λ v. (λ copy. (all v).0 (of_id v copy), λ h. record { id = id; mm = mm; nearest = nearest; within = near; copy = (all v).1 h }))
    on_range None none = λ v copy. none v (of_id v copy)
