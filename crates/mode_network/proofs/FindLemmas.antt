-- What a binary search finds in the ordered lists of a network.
use Rattle.plan_base.proofs.Common.{◌≡◌, ℕ, ◌<◌, ◌≤◌, ◌∙◌, List, [], length, Some, None, refl, ap, sym, subst, arith, lit≤, nat_lt, true, false, Bool, slice_index_or, slice_get, IsNonDecreasingBy, IsPartitionPoint, ordering_then, ordering_index, ordering_reverse, nat_cmp, MatchOrdering, le_refl, ltb-true, ltb-false, Ordering, Less, Equal, Greater, IsTotalOrder, ranks as nat_ranks, get_or_default, slice_get-get_or, slice_get_within, get_or_from_slice_get, exact_bytes}
use Rattle.std.specs.Cmp.{nat_cmp_is}
use Rattle.mode_network.specs.{IsPlaceOf, Arc, IsAscending, arc_cmp, name_cmp, Leads}
use Rattle.mode_network.proofs.RuleLemmas.{arcs_total, names_total}

index_most : (o : Ordering) → ordering_index o ≤ 2
index_most Less = lit≤ tt
index_most Equal = lit≤ tt
index_most Greater = lit≤ tt

-- in an ascending list the answers of a search rise
module _ {X : Type 0} (cmp : X → X → Ordering) (total : IsTotalOrder cmp) (xs : List X) (ascend : IsAscending cmp xs) (x : X) where
  below_equal : (a b : X) → cmp a b ≡ Less → cmp b x ≡ Equal → cmp a x ≡ Less
  below_equal a b below same =
      total.antisymm a x ∙ ap ordering_reverse (sym (total.congr b x a same) ∙ (total.antisymm b a ∙ ap ordering_reverse below))

  index_rises : (a b : X) → cmp a b ≡ Less → (o : Ordering) → cmp b x ≡ o → ordering_index (cmp a x) ≤ ordering_index o
  index_rises a b below Less e = rw (total.trans a b x below e) (lit≤ tt)
  index_rises a b below Equal e = rw (below_equal a b below e) (lit≤ tt)
  index_rises a b below Greater e = index_most _

  pub answers_rise : IsNonDecreasingBy (λ y. ordering_index (cmp y x)) xs
  answers_rise i j d h lt = by_place (nat_lt i j) refl
    where
      by_place : (t : Bool) → nat_lt i j ≡ t → ordering_index (cmp (slice_index_or xs i d) x) ≤ ordering_index (cmp (slice_index_or xs j d) x)
      by_place true e = index_rises _ _ (ascend i j d (ltb-true _ _ e) lt) _ refl
      by_place false e =
          let same : i ≡ j = omega (arith, ltb-false _ _ e) in
          rw same (le_refl _)

  -- where the search ended between those below and those above, x is not there
  pub not_there : (place : ℕ) → IsPartitionPoint (λ y. cmp y x ≡ Less) (λ y. cmp y x ≡ Greater) xs place
      → (k : ℕ) (d : X) → k < length xs → cmp (slice_index_or xs k d) x ≡ Equal → ⊥
  not_there place point k d h e = by_place (nat_lt k place) refl
    where
      by_place : (t : Bool) → nat_lt k place ≡ t → ⊥
      by_place true below = let less = point.0 k d (omega arith) (ltb-true _ _ below) in cc
      by_place false above = let greater = point.1 k d (ltb-false _ _ above) h in cc

  -- of two places of the list one is not before the other, where both have x
  pub not_before : (j k : ℕ) (d : X) → k < length xs → cmp (slice_index_or xs j d) x ≡ Equal → cmp (slice_index_or xs k d) x ≡ Equal → j < k → ⊥
  not_before j k d h ej ek lt = let less = below_equal _ _ (ascend j k d lt h) ek in cc

-- equal ends
pub same_ends : (a u b v : ℕ) → ordering_then (nat_cmp a u) (nat_cmp b v) ≡ Equal → (a ≡ u) × (b ≡ v)
same_ends a u b v e = by_first (nat_cmp a u) (nat_ranks a u) e
  where
    by_second : (o : Ordering) → MatchOrdering o (b < v) (b ≡ v) (v < b) → o ≡ Equal → b ≡ v
    by_second Less h e = cc
    by_second Equal h e = h
    by_second Greater h e = cc

    by_first : (o : Ordering) → MatchOrdering o (a < u) (a ≡ u) (u < a) → ordering_then o (nat_cmp b v) ≡ Equal → (a ≡ u) × (b ≡ v)
    by_first Less h e = cc
    by_first Equal h e = (h, by_second (nat_cmp b v) (nat_ranks b v) e)
    by_first Greater h e = cc

-- a search for the ends of an arc
abbrev pub ends_cmp : ℕ → ℕ → Arc → Ordering
ends_cmp u v arc = ordering_then (nat_cmp arc.from u) (nat_cmp arc.to v)

abbrev arc_of : ℕ → ℕ → ℕ → Arc
arc_of u v ms = record { from = u; to = v; ms = ms }

arc_is : (a : Arc) (u v ms : ℕ) → a.from ≡ u → a.to ≡ v → a.ms ≡ ms → a ≡ arc_of u v ms
arc_is a u v ms from to lasts =
    subst (λ (x : ℕ). a ≡ arc_of x v ms) from (subst (λ (y : ℕ). a ≡ arc_of a.from y ms) to (subst (λ (z : ℕ). a ≡ arc_of a.from a.to z) lasts refl))

-- the arc at a place with these ends leads from one to the other
pub leads_at : (arcs : List Arc) (u v place : ℕ) (d : Arc) → place < length arcs
    → ((e : Arc) → ends_cmp u v (slice_index_or arcs place e) ≡ Equal) → Leads arcs u v (slice_index_or arcs place d).ms
leads_at arcs u v place d lt same =
    let arc = arc_of u v (slice_index_or arcs place d).ms in
    let ends = same_ends _ _ _ _ (same arc) in
    (place, lt, arc_is _ u v _ ends.0 ends.1 (ap (λ (a : Arc). a.ms) (get_or_default arcs place arc d lt)))

equal_ends : (u v : ℕ) → ordering_then (nat_cmp u u) (nat_cmp v v) ≡ Equal
equal_ends u v = rw (sym (nat_cmp_is u u Equal refl), sym (nat_cmp_is v v Equal refl)) refl

-- where a search ended between, no arc has these ends
pub none_leads : (arcs : List Arc) → IsAscending arc_cmp arcs → (u v place : ℕ)
    → (IsNonDecreasingBy (λ arc. ordering_index (ends_cmp u v arc)) arcs → IsPartitionPoint (λ arc. ends_cmp u v arc ≡ Less) (λ arc. ends_cmp u v arc ≡ Greater) arcs place)
    → (ms : ℕ) → Leads arcs u v ms → ⊥
none_leads arcs ascend u v place ended ms (k, lt, is) =
    let arc = arc_of u v ms in
    not_there arc_cmp arcs_total arcs ascend arc place (ended (answers_rise arc_cmp arcs_total arcs ascend arc)) k arc lt (rw is (equal_ends u v))

-- what stands beside itself is equal
pub self_equal : {X : Type 0} (cmp : X → X → Ordering) → IsTotalOrder cmp → (x : X) → cmp x x ≡ Equal
self_equal cmp total x = by_order (cmp x x) (total.antisymm x x)
  where
    by_order : (o : Ordering) → o ≡ ordering_reverse o → o ≡ Equal
    by_order Less e = cc
    by_order Equal e = refl
    by_order Greater e = cc

-- where a name was found it is, and nowhere else
pub name_found : (names : List (List ℕ)) → IsAscending name_cmp names → (name : List ℕ) (place : ℕ) → place < length names
    → ((d : List ℕ) → name_cmp (slice_index_or names place d) name ≡ Equal) → IsPlaceOf names name (Some place)
name_found names ascend name place lt same =
    (slice_get-get_or names place [] lt ∙ ap Some (exact_bytes _ _ (same [])), only)
  where
    equal : (k : ℕ) → slice_get names k ≡ Some name → name_cmp (slice_index_or names k []) name ≡ Equal
    equal k is = rw (get_or_from_slice_get names k name [] is) (self_equal name_cmp names_total name)

    only : (k : ℕ) → slice_get names k ≡ Some name → k ≡ place
    only k is =
        let inside = slice_get_within names k name is in
        let not_after = not_before name_cmp names_total names ascend name place k [] inside (same []) (equal k is) in
        let not_first = not_before name_cmp names_total names ascend name k place [] lt (equal k is) (same []) in
        omega (arith, not_after, not_first)

pub name_missing : (names : List (List ℕ)) → IsAscending name_cmp names → (name : List ℕ) (place : ℕ)
    → (IsNonDecreasingBy (λ held. ordering_index (name_cmp held name)) names → IsPartitionPoint (λ held. name_cmp held name ≡ Less) (λ held. name_cmp held name ≡ Greater) names place)
    → IsPlaceOf names name None
name_missing names ascend name place ended k is =
    not_there name_cmp names_total names ascend name place (ended (answers_rise name_cmp names_total names ascend name)) k [] (slice_get_within names k name is)
    (rw (get_or_from_slice_get names k name [] is) (self_equal name_cmp names_total name))

-- there is one arc at most between two nodes
pub leads_once : (arcs : List Arc) → IsAscending arc_cmp arcs → (u v a b : ℕ) → Leads arcs u v a → Leads arcs u v b → a ≡ b
leads_once arcs ascend u v a b (j, hj, ej) (k, hk, ek) =
    let x = arc_of u v a in
    let at_k : slice_index_or arcs k x ≡ arc_of u v b = get_or_default arcs k x (arc_of u v b) hk ∙ ek in
    let equal_j : arc_cmp (slice_index_or arcs j x) x ≡ Equal = rw ej (equal_ends u v) in
    let equal_k : arc_cmp (slice_index_or arcs k x) x ≡ Equal = rw at_k (equal_ends u v) in
    let not_after = not_before arc_cmp arcs_total arcs ascend x j k x hk equal_j equal_k in
    let not_first = not_before arc_cmp arcs_total arcs ascend x k j x hj equal_k equal_j in
    let same : j ≡ k = omega (arith, not_after, not_first) in
    ap (λ (arc : Arc). arc.ms) (sym ej ∙ (ap (λ i. slice_index_or arcs i x) same ∙ at_k))
