-- The copies of an endpoint are nodes, and stand in a row.
use Rattle.plan_base.proofs.Common.{◌≡◌, ℕ, ℤ, zero, suc, ◌∷◌, ◌+◌, ◌-◌, ◌<◌, ◌∙◌, List, [], ◌++◌, length, length-append, Option, Some, None, ◌⊎◌, inl, inr, refl, ap, sym, subst, arith, All, AllPairs, Contains, slice_index_or, slice_get, option_map, ◌↔◌, range_with_len, lt_of_lt_of_le, get_or_default, length-range_with_len, get_or-range_with_len, slice_get_within}
use Rattle.mode_network.specs.{Node, Road as RoadKey, Endpoint, Near, NearIn, nodes_of, IsNetwork, IsRoadCopy, IsCopy, AreExactly, declared.endpoints.Endpoint.TheVariants.Road, declared.endpoints.Endpoint.TheVariants.Stop, NetworkLists.NetworkLists}
use Rattle.mode_network.proofs.RuleLemmas.{nodes_hold_roads}
use Rattle.journey.specs.{AreTheCopies}

module _ (n : NetworkLists) (network : IsNetwork n) where
  road_in_range : (id : ℤ) (v : ℕ) → IsRoadCopy n.roads id v → v < length (nodes_of n)
  road_in_range id v (mode, e) = on_node (slice_get n.roads v) refl e
    where
      on_node : (o : Option Node) → slice_get n.roads v ≡ o → option_map (λ (node : Node). node.key) o ≡ Some (RoadKey mode id) → v < length (nodes_of n)
      on_node None is e = cc
      on_node (Some node) is e = lt_of_lt_of_le (slice_get_within n.roads v node is) (nodes_hold_roads n network)

  pub copy_in_range : (endpoint : Endpoint) (v : ℕ) → IsCopy n endpoint v → v < length (nodes_of n)
  copy_in_range (Road id) v copy = road_in_range id v copy
  copy_in_range (Stop name) v (stop, named, is) =
      let inside = slice_get_within n.stop_names stop name named in
      omega (arith, network.parts.one_name_each, length-append (n.roads ++ n.stops) n.switches, length-append n.roads n.stops)
  copy_in_range (Near place) v near = road_in_range near.id v near.copy
  copy_in_range (NearIn mode place) v near = road_in_range near.id v (mode, near.copy)

  pub copies_in_range : (endpoint : Endpoint) (list : List ℕ) → AreTheCopies n endpoint list → All (λ v. v < length (nodes_of n)) list
  copies_in_range endpoint list copies k d h =
      copy_in_range endpoint (slice_index_or list k d) ((copies.are (slice_index_or list k d)).0 (k, h, get_or_default list k (slice_index_or list k d) d h))

-- the numbers from one to before another
in_a_row : (P : ℕ → Type 0) (range : ℕ × ℕ) → AreExactly P (Some range) → (v : ℕ) → Contains (range_with_len range.0 (range.1 - range.0)) v ↔ P v
in_a_row P range exact v = (from_list, to_list)
  where
    from_list : Contains (range_with_len range.0 (range.1 - range.0)) v → P v
    from_list (k, lt, is) =
        let inside : k < range.1 - range.0 = omega (arith, length-range_with_len range.0 (range.1 - range.0)) in
        let at = get_or-range_with_len range.0 (range.1 - range.0) k v inside in
        (exact.1 v).1 (omega arith, omega arith)

    to_list : P v → Contains (range_with_len range.0 (range.1 - range.0)) v
    to_list p =
        let between = (exact.1 v).0 p in
        let k = v - range.0 in
        let inside : k < range.1 - range.0 = omega arith in
        let back : range.0 + k ≡ v = omega arith in
        (k, omega (arith, length-range_with_len range.0 (range.1 - range.0)), get_or-range_with_len range.0 (range.1 - range.0) k v inside ∙ back)

-- one number more
pub range_more : (n a : ℕ) → range_with_len a (n + 1) ≡ range_with_len a n ++ (a + n) ∷ []
range_more zero a = let same : a + zero ≡ a = omega arith in rw same refl
range_more (suc n) a =
    let same : (a + 1) + n ≡ a + suc n = omega arith in
    let more : suc n + 1 ≡ suc (n + 1) = omega arith in
    rw more (ap (λ (l : List ℕ). a ∷ l) (range_more n (a + 1) ∙ ap (λ b. range_with_len (a + 1) n ++ b ∷ []) same))

-- the numbers in a row ascend
range_ascends : (a n : ℕ) → AllPairs (λ v w. v < w) (range_with_len a n)
range_ascends a n i j d lt within =
    let inside : j < n = omega (arith, within, length-range_with_len a n) in
    let at_i = get_or-range_with_len a n i d (omega arith) in
    let at_j = get_or-range_with_len a n j d inside in
    omega (arith, at_i, at_j)

-- where the copies of an endpoint are the numbers of a range, those are their list
pub row_of_copies : (n : NetworkLists) (endpoint : Endpoint) (range : ℕ × ℕ) → AreExactly (IsCopy n endpoint) (Some range) → (list : List ℕ) → list ≡ range_with_len range.0 (range.1 - range.0)
    → AreTheCopies n endpoint list
row_of_copies n endpoint range exact list is =
    subst (AreTheCopies n endpoint) (sym is) (record { ascending = range_ascends range.0 (range.1 - range.0); are = in_a_row (IsCopy n endpoint) range exact })

-- ---- an endpoint has one list of copies

HasAll : List ℕ → List ℕ → Type 0
HasAll xs ys = (v : ℕ) → Contains xs v → Contains ys v

Ascends : List ℕ → Type 0
Ascends list = AllPairs (λ v w. v < w) list

head_or_tail : (x : ℕ) (xs : List ℕ) (v : ℕ) → Contains (x ∷ xs) v → (x ≡ v) ⊎ Contains xs v
head_or_tail x xs v (zero, lt, is) = inl is
head_or_tail x xs v (suc k, lt, is) = inr (k, (omega arith), is)

below_tail : (x : ℕ) (xs : List ℕ) → AllPairs (λ v w. v < w) (x ∷ xs) → (v : ℕ) → Contains xs v → x < v
below_tail x xs up v (k, lt, is) = subst (λ w. x < w) is (up zero (suc k) v (omega arith) (omega arith))

same_numbers : (xs ys : List ℕ) → Ascends xs → Ascends ys → HasAll xs ys → HasAll ys xs → xs ≡ ys
unfolding HasAll Ascends
same_numbers [] [] up above there back = refl
same_numbers [] (y ∷ ys) up above there back = let h = back y (0, (omega arith), refl) in absurd (omega (arith, h.1))
same_numbers (x ∷ xs) [] up above there back = let h = there x (0, (omega arith), refl) in absurd (omega (arith, h.1))
same_numbers (x ∷ xs) (y ∷ ys) up above there back = joined head (same_numbers xs ys (tail x xs up) (tail y ys above) (tails x y xs ys head up there) (tails y x ys xs (sym head) above back))
  where
    tail : (z : ℕ) (zs : List ℕ) → AllPairs (λ v w. v < w) (z ∷ zs) → AllPairs (λ v w. v < w) zs
    tail z zs up i j d lt within = up (suc i) (suc j) d (omega arith) (omega arith)

    head : x ≡ y
    head = elim (head_or_tail y ys x (there x (0, (omega arith), refl))) [
      | inl e ↦ sym e
      | inr later ↦ elim (head_or_tail x xs y (back y (0, (omega arith), refl))) [
        | inl e ↦ e
        | inr also ↦ (let a = below_tail y ys above x later in let b = below_tail x xs up y also in absurd (omega arith))
      ]
    ]

    tails : (a b : ℕ) (xs ys : List ℕ) → a ≡ b → AllPairs (λ v w. v < w) (a ∷ xs) → ((v : ℕ) → Contains (a ∷ xs) v → Contains (b ∷ ys) v) → (v : ℕ) → Contains xs v → Contains ys v
    tails a b xs ys same up there v (k, lt, is) = elim (head_or_tail b ys v (there v (suc k, (omega arith), is))) [
      | inr later ↦ later
      | inl e ↦ (let below = below_tail a xs up v (k, lt, is) in absurd (omega arith))
    ]

    joined : x ≡ y → xs ≡ ys → x ∷ xs ≡ y ∷ ys
    joined e f = ap (λ z. z ∷ xs) e ∙ ap (λ zs. y ∷ zs) f

pub one_list_of_copies : (n : NetworkLists) (endpoint : Endpoint) (xs ys : List ℕ) → AreTheCopies n endpoint xs → AreTheCopies n endpoint ys → xs ≡ ys
unfolding HasAll Ascends
one_list_of_copies n endpoint xs ys a b = same_numbers xs ys a.ascending b.ascending (λ v has. (b.are v).1 ((a.are v).0 has)) (λ v has. (a.are v).1 ((b.are v).0 has))
