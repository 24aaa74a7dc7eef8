-- The road nodes of one id stand in a row.
use Rattle.plan_base.proofs.Common.{◌≡◌, ℕ, ℤ, ◌<◌, ◌≤◌, ◌<ℤ◌, ◌≤ℤ◌, int_lt, int_le, ◌∙◌, ◌⊎◌, inl, inr, List, length, Option, Some, None, refl, ap, sym, subst, arith, nat_lt, not, true, false, Bool, T, slice_index_or, slice_get, option_map, All, IsPartitionedBy, IsPartitionPoint, ordering_then, int_cmp, MatchOrdering, Ordering, Less, Equal, Greater, int_ranks, ints, T_from_true, ltb-true, ltb-false, slice_get_cases, slice_get_within, get_or_from_slice_get}
use Rattle.std.specs.Int.Signed.{lt_z_yes, lt_z_no, le_z_yes}
use Rattle.std.proofs.lemmas.Int.{by_lt_z}
use Rattle.plan_base.specs.{Mode}
use Rattle.mode_network.specs.{Node, NodeKey, Road, Stop, Switch, IsAscending, IsRoad, node_cmp, rank_of, IsRoadCopy, AreExactly}

first_no_more : (a b : ℤ) (o : Ordering) → ordering_then (int_cmp a b) o ≡ Less → a ≤ℤ b
first_no_more a b o e = by_order (int_cmp a b) (int_ranks a b) e
  where
    by_order : (r : Ordering) → MatchOrdering r (a <ℤ b) (a ≡ b) (b <ℤ a) → ordering_then r o ≡ Less → a ≤ℤ b
    by_order Less h e = omega (arith, ints)
    by_order Equal h e = rw h (omega (arith, ints))
    by_order Greater h e = cc

abbrev pub id_of : Node → ℤ
id_of node = (rank_of node.key).0

lt_true : (a b : ℤ) → int_lt a b ≡ true → a <ℤ b
lt_true a b e = lt_z_yes (T_from_true _ e)

lt_false : (a b : ℤ) → int_lt a b ≡ false → b ≤ℤ a
lt_false a b e = lt_z_no (T_from_true _ (ap not e))

lt_is : (a b : ℤ) → a <ℤ b → int_lt a b ≡ true
lt_is a b h = by_test (int_lt a b) refl
  where
    by_test : (t : Bool) → int_lt a b ≡ t → t ≡ true
    by_test true e = refl
    by_test false e = let no = lt_false a b e in absurd (omega (arith, ints))

le_true : (a b : ℤ) → int_le a b ≡ true → a ≤ℤ b
le_true a b e = le_z_yes (T_from_true _ e)

le_false : (a b : ℤ) → int_le a b ≡ false → b <ℤ a
le_false a b e = by_lt_z b a (λ h. h) (λ (h : a ≤ℤ b). absurd (subst T e h.le))

le_is : (a b : ℤ) → a ≤ℤ b → int_le a b ≡ true
le_is a b h = by_test (int_le a b) refl
  where
    by_test : (t : Bool) → int_le a b ≡ t → t ≡ true
    by_test true e = refl
    by_test false e = let no = le_false a b e in absurd (omega (arith, ints))

some_is : {X : Type 0} {a b : X} → Some a ≡ Some b → a ≡ b
some_is e = cc

module _ (roads : List Node) (ascend : IsAscending node_cmp roads) (id : ℤ) where
  ids_rise : (i j : ℕ) (d : Node) → i ≤ j → j < length roads → id_of (slice_index_or roads i d) ≤ℤ id_of (slice_index_or roads j d)
  ids_rise i j d h lt = by_place (nat_lt i j) refl
    where
      by_place : (t : Bool) → nat_lt i j ≡ t → id_of (slice_index_or roads i d) ≤ℤ id_of (slice_index_or roads j d)
      by_place true e = first_no_more _ _ _ (ascend i j d (ltb-true _ _ e) lt)
      by_place false e = let same : i ≡ j = omega (arith, ltb-false _ _ e) in rw same (omega (arith, ints))

  pub below_parted : IsPartitionedBy (λ (node : Node). int_lt (id_of node) id) roads
  below_parted i j d h lt e =
      let rise = ids_rise i j d h lt in
      let below = lt_true (id_of (slice_index_or roads j d)) id e in
      lt_is (id_of (slice_index_or roads i d)) id (omega (arith, ints))

  pub within_parted : IsPartitionedBy (λ (node : Node). int_le (id_of node) id) roads
  within_parted i j d h lt e =
      let rise = ids_rise i j d h lt in
      let within = le_true (id_of (slice_index_or roads j d)) id e in
      le_is (id_of (slice_index_or roads i d)) id (omega (arith, ints))

  -- a node between the two places has the id, and no other
  module _ (are : All (λ node. IsRoad node.key) roads) (first end : ℕ)
      (low : IsPartitionPoint (λ (node : Node). int_lt (id_of node) id ≡ true) (λ node. int_lt (id_of node) id ≡ false) roads first)
      (high : IsPartitionPoint (λ (node : Node). int_le (id_of node) id ≡ true) (λ node. int_le (id_of node) id ≡ false) roads end)
      (within : end ≤ length roads) where
    keyed : (key : NodeKey) → IsRoad key → (rank_of key).0 ≡ id → (mode : Mode) × (key ≡ Road mode id)
    keyed (Road mode i) road same = (mode, ap (Road mode) same)
    keyed (Stop stop) road same = absurd road
    keyed (Switch i) road same = absurd road

    copy_between : (v : ℕ) → first ≤ v → v < end → IsRoadCopy roads id v
    copy_between v from before = on_cases (slice_get_cases roads v).1
      where
        on_cases : ((x : Node) × (v < length roads) × (slice_get roads v ≡ Some x) × (slice_index_or roads v x ≡ x)) ⊎ ((length roads ≤ v) × (slice_get roads v ≡ None)) → IsRoadCopy roads id v
        on_cases (inl (node, lt, is, same)) =
            let at_least = lt_false (id_of (slice_index_or roads v node)) id (low.1 v node from lt) in
            let at_most = le_true (id_of (slice_index_or roads v node)) id (high.0 v node (omega arith) before) in
            let equal : id_of (slice_index_or roads v node) ≡ id = omega (arith, ints) in
            let road = keyed _ (are v node lt) equal in
            (road.0, ap (option_map (λ (n : Node). n.key)) is ∙ ap (λ (n : Node). Some n.key) (sym same) ∙ ap Some road.1)
        on_cases (inr (past, none)) = absurd (omega arith)

    between_copy : (v : ℕ) → IsRoadCopy roads id v → (first ≤ v) × (v < end)
    between_copy v (mode, e) = on_held (slice_get roads v) refl e
      where
        not_below : (t : Bool) → nat_lt v first ≡ t → (d : Node) → v < length roads → id_of (slice_index_or roads v d) ≡ id → first ≤ v
        not_below false h d lt same = ltb-false _ _ h
        not_below true h d lt same = let less = lt_true (id_of (slice_index_or roads v d)) id (low.0 v d (omega arith) (ltb-true _ _ h)) in absurd (omega (arith, ints))

        not_above : (t : Bool) → nat_lt v end ≡ t → (d : Node) → v < length roads → id_of (slice_index_or roads v d) ≡ id → v < end
        not_above true h d lt same = ltb-true _ _ h
        not_above false h d lt same = let more = le_false (id_of (slice_index_or roads v d)) id (high.1 v d (ltb-false _ _ h) lt) in absurd (omega (arith, ints))

        on_held : (o : Option Node) → slice_get roads v ≡ o → option_map (λ (n : Node). n.key) o ≡ Some (Road mode id) → (first ≤ v) × (v < end)
        on_held None is e = cc
        on_held (Some node) is e =
            let inside = slice_get_within roads v node is in
            let same : id_of (slice_index_or roads v node) ≡ id = rw (get_or_from_slice_get roads v node node is) (ap (λ k. (rank_of k).0) (some_is e)) in
            (not_below (nat_lt v first) refl node inside same, not_above (nat_lt v end) refl node inside same)

    pub copies_found : first < end → AreExactly (IsRoadCopy roads id) (Some (first, end))
    copies_found some = (some, λ v. (between_copy v, λ h. copy_between v h.0 h.1))

    pub copies_missing : end ≤ first → AreExactly (IsRoadCopy roads id) None
    copies_missing none v copy = let between = between_copy v copy in omega arith
