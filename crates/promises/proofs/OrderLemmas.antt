-- Lists that ascend and have the same elements are one list.
use Rattle.plan_base.proofs.Common.{◌≡◌, ℕ, zero, suc, ◌+◌, ◌<◌, ◌≤◌, Bool, true, false, cond, ◌⊎◌, inl, inr, List, [], ◌∷◌, map, length, refl, sym, ap, ◌∙◌, subst, arith, AllPairs, Contains, slice_index_or, IsTotalOrder, AllByRecursion, sum_by, IsPermutation, IsSorted, is_eq, is_lt, ordering_reverse, Ordering, get_or-map, length-map, false≢true, tied_itself, IsDistinct-IsPermutation, sum_by-cons, Contains-permutation, IsPermutation-sym, ranks_by, sorted_far, sum_by-IsPermutation, Less, Equal, Greater}
use Rattle.std.specs.List.{IsDistinct}

module _ {X : Type 0} (cmp : X → X → Ordering) (total : IsTotalOrder cmp) where
  abbrev pub Ascends : List X → Type 0
  Ascends xs = AllPairs (λ a b. cmp a b ≡ Less) xs

  abbrev pub AreAmong : List X → List X → Type 0
  AreAmong xs ys = (z : X) → Contains xs z → Contains ys z

  tail_ascends : (x : X) (xs : List X) → Ascends (x ∷ xs) → Ascends xs
  tail_ascends x xs ascending i j d lt in_range = ascending (suc i) (suc j) d (omega arith) (omega arith)

  head_below : (x : X) (xs : List X) → Ascends (x ∷ xs) → (y : X) → Contains xs y → cmp x y ≡ Less
  head_below x xs ascending y (k, lt, is) = subst (λ z. cmp x z ≡ Less) is (ascending zero (suc k) y (omega arith) (omega arith))

  head_or_tail : (x : X) (xs : List X) (y : X) → Contains (x ∷ xs) y → (x ≡ y) ⊎ Contains xs y
  head_or_tail x xs y (zero, lt, is) = inl is
  head_or_tail x xs y (suc k, lt, is) = inr (k, omega arith, is)

  in_tail : (x : X) (xs : List X) (y : X) → Contains xs y → Contains (x ∷ xs) y
  in_tail x xs y (k, lt, is) = (suc k, omega arith, is)

  not_both : {G : Type 0} (x y : X) → cmp x y ≡ Less → cmp y x ≡ Less → G
  not_both x y below above = let e : Less ≡ ordering_reverse Less = sym below ∙ total.antisymm x y ∙ ap ordering_reverse above in cc

  same_head : (x y : X) (xs ys : List X) → Ascends (x ∷ xs) → Ascends (y ∷ ys) → AreAmong (x ∷ xs) (y ∷ ys) → AreAmong (y ∷ ys) (x ∷ xs) → x ≡ y
  same_head x y xs ys up above there back = elim (head_or_tail y ys x (there x (0, omega arith, refl))) [
    | inl e ↦ sym e
    | inr below ↦ elim (head_or_tail x xs y (back y (0, omega arith, refl))) [
      | inl e ↦ e
      | inr also ↦ not_both x y (head_below x xs up y also) (head_below y ys above x below)
    ]
  ]

  tails : (x y : X) (xs ys : List X) → x ≡ y → Ascends (x ∷ xs) → AreAmong (x ∷ xs) (y ∷ ys) → AreAmong xs ys
  tails x y xs ys same up there z has = elim (head_or_tail y ys z (there z (in_tail x xs z has))) [
    | inr in_ys ↦ in_ys
    | inl e ↦ (let below : cmp x x ≡ Less = subst (λ w. cmp x w ≡ Less) (sym (same ∙ e)) (head_below x xs up z has) in not_both x x below below)
  ]

  pub ascending_once : (xs ys : List X) → Ascends xs → Ascends ys → AreAmong xs ys → AreAmong ys xs → xs ≡ ys
  ascending_once [] [] up above there back = refl
  ascending_once [] (y ∷ ys) up above there back = let h = back y (0, omega arith, refl) in absurd (omega (arith, h.1))
  ascending_once (x ∷ xs) [] up above there back = let h = there x (0, omega arith, refl) in absurd (omega (arith, h.1))
  ascending_once (x ∷ xs) (y ∷ ys) up above there back =
      let head : x ≡ y = same_head x y xs ys up above there back in
      let tail : xs ≡ ys = ascending_once xs ys (tail_ascends x xs up) (tail_ascends y ys above) (tails x y xs ys head up there) (tails y x ys xs (sym head) above back) in
      ap (λ z. z ∷ xs) head ∙ ap (λ zs. y ∷ zs) tail

  -- in whichever order the elements are given
  pub ascending_permutation_once : (zs xs ys : List X) → IsPermutation zs xs → IsPermutation zs ys → Ascends xs → Ascends ys → xs ≡ ys
  ascending_permutation_once zs xs ys one other up above =
      ascending_once xs ys up above
      (λ z has. Contains-permutation zs ys z other (Contains-permutation xs zs z (IsPermutation-sym zs xs one) has))
      (λ z has. Contains-permutation zs xs z one (Contains-permutation ys zs z (IsPermutation-sym zs ys other) has))

-- keys that ascend are of elements that ascend by their keys
pub ascends_by : {X K : Type 0} (key : X → K) (cmp : K → K → Ordering) (xs : List X) → AllPairs (λ a b. cmp a b ≡ Less) (map key xs) → AllPairs (λ a b. cmp (key a) (key b) ≡ Less) xs
ascends_by {X} {K} key cmp xs up i j d lt in_range =
    let pair = up i j (key d) lt (omega (arith, length-map xs key)) in
    let second = subst (λ (b : K). cmp (slice_index_or (map key xs) i (key d)) b ≡ Less) (get_or-map key xs j d (key d) in_range) pair in
    subst (λ (a : K). cmp a (key (slice_index_or xs j d)) ≡ Less) (get_or-map key xs i d (key d) (omega arith)) second

-- ---- sorted lists

-- where the keys differ, elements differ by their keys
pub distinct_by : {X K : Type 0} (key : X → K) (same : K → K → Bool) (xs : List X) → IsDistinct same (map key xs) → IsDistinct (λ a b. same (key a) (key b)) xs
unfolding IsDistinct
distinct_by key same [] distinct = tt
distinct_by {X} key same (x ∷ xs) distinct = (each xs distinct.0, distinct_by key same xs distinct.1)
  where
    each : (ys : List X) → AllByRecursion (λ y. same (key x) y ≡ false) (map key ys) → AllByRecursion (λ y. same (key x) (key y) ≡ false) ys
    each [] all = tt
    each (y ∷ ys) all = (all.0, each ys all.1)

-- elements that differ differ at any two places
distinct_at : {X : Type 0} (same : X → X → Bool) (xs : List X) (i j : ℕ) (d : X) → IsDistinct same xs → i < j → j < length xs → same (slice_index_or xs i d) (slice_index_or xs j d) ≡ false
unfolding IsDistinct
distinct_at same [] i j d distinct lt below = absurd (omega arith)
distinct_at {X} same (x ∷ xs) zero zero d distinct lt below = absurd (omega arith)
distinct_at {X} same (x ∷ xs) zero (suc j) d distinct lt below = each xs j distinct.0 (omega arith)
  where
    each : (ys : List X) (k : ℕ) → AllByRecursion (λ y. same x y ≡ false) ys → k < length ys → same x (slice_index_or ys k d) ≡ false
    each [] k all lt = absurd (omega arith)
    each (y ∷ ys) zero all lt = all.0
    each (y ∷ ys) (suc k) all lt = each ys k all.1 (omega arith)
distinct_at same (x ∷ xs) (suc i) zero d distinct lt below = absurd (omega arith)
distinct_at same (x ∷ xs) (suc i) (suc j) d distinct lt below = distinct_at same xs i j d distinct.1 (omega arith) (omega arith)

module _ {X : Type 0} (cmp : X → X → Ordering) (total : IsTotalOrder cmp) where
  -- no later element is below an earlier one
  not_below : (xs : List X) → IsSorted cmp xs → (i j : ℕ) (d : X) → i ≤ j → j < length xs → is_lt (cmp (slice_index_or xs j d) (slice_index_or xs i d)) ≡ false
  not_below xs sorted i j d le lt = sorted_far (λ x y. is_lt (cmp x y)) (ranks_by total (λ (x : X). x)) xs sorted i j d le lt

  -- a sorted list whose elements differ ascends
  pub ascends_from_sorted : (same : X → X → Bool) → ((x y : X) → cmp x y ≡ Equal → same x y ≡ true) → (xs : List X) → IsSorted cmp xs → IsDistinct same xs → Ascends cmp total xs
  ascends_from_sorted same equal xs sorted distinct i j d lt below = by_order (cmp (slice_index_or xs i d) (slice_index_or xs j d)) refl
    where
      by_order : (o : Ordering) → cmp (slice_index_or xs i d) (slice_index_or xs j d) ≡ o → cmp (slice_index_or xs i d) (slice_index_or xs j d) ≡ Less
      by_order Less is = is
      by_order Equal is = absurd (false≢true (sym (distinct_at same xs i j d distinct lt below) ∙ equal _ _ is))
      by_order Greater is =
          absurd (false≢true (sym (not_below xs sorted i j d (omega arith) below) ∙ ap is_lt (total.antisymm (slice_index_or xs j d) (slice_index_or xs i d) ∙ ap ordering_reverse is)))

  -- elements that differ stand in one order
  pub distinct_once : (same : X → X → Bool) → ((x y : X) → same x y ≡ same y x) → ((x y : X) → cmp x y ≡ Equal → same x y ≡ true) → (given xs ys : List X)
      → IsDistinct same given → IsPermutation given xs → IsPermutation given ys → IsSorted cmp xs → IsSorted cmp ys → xs ≡ ys
  distinct_once same flips equal given xs ys distinct one other sorted also =
      ascending_permutation_once cmp total given xs ys one other
      (ascends_from_sorted same equal xs sorted (IsDistinct-IsPermutation same flips given xs one distinct))
      (ascends_from_sorted same equal ys also (IsDistinct-IsPermutation same flips given ys other distinct))

  -- ---- where elements that tie are the same, there is one sorted list
  module _ (exact : (x y : X) → cmp x y ≡ Equal → x ≡ y) where
    abbrev count : X → List X → ℕ
    count q xs = sum_by (λ y. cond (is_eq (cmp q y)) 1 0) xs

    count-cons : (q x : X) (xs : List X) → count q (x ∷ xs) ≡ cond (is_eq (cmp q x)) 1 0 + count q xs
    count-cons q x xs = sum_by-cons (λ y. cond (is_eq (cmp q y)) 1 0) x xs

    is_same : (x y : X) → is_eq (cmp x y) ≡ true → x ≡ y
    is_same x y e = by_order (cmp x y) refl e
      where
        by_order : (o : Ordering) → cmp x y ≡ o → is_eq o ≡ true → x ≡ y
        by_order Less is e = absurd (false≢true e)
        by_order Equal is e = exact x y is
        by_order Greater is e = absurd (false≢true e)

    found : (q : X) (xs : List X) → 0 < count q xs → Contains xs q
    found q [] lt = absurd (omega arith)
    found q (x ∷ xs) lt = by_test (is_eq (cmp q x)) refl (found q xs)
      where
        by_test : (t : Bool) → is_eq (cmp q x) ≡ t → (0 < count q xs → Contains xs q) → Contains (x ∷ xs) q
        by_test true e rest = (0, omega arith, sym (is_same q x e))
        by_test false e rest =
            let (k, below, is) = rest (omega (arith, count-cons q x xs, ap {B = ℕ} (λ b. cond b 1 0) e)) in
            (suc k, omega arith, is)

    counted : (x : X) (xs : List X) → 0 < count x (x ∷ xs)
    counted x xs = omega (arith, count-cons x x xs, ap {B = ℕ} (λ (o : Ordering). cond (is_eq o) 1 0) (tied_itself total x))

    head_least : (x : X) (xs : List X) → IsSorted cmp (x ∷ xs) → (z : X) → Contains (x ∷ xs) z → is_lt (cmp z x) ≡ false
    head_least x xs sorted z (k, lt, is) = subst (λ w. is_lt (cmp w x) ≡ false) is (not_below (x ∷ xs) sorted 0 k z (omega arith) lt)

    tied : (x y : X) → is_lt (cmp x y) ≡ false → is_lt (cmp y x) ≡ false → cmp x y ≡ Equal
    tied x y above below = by_order (cmp x y) refl
      where
        by_order : (o : Ordering) → cmp x y ≡ o → cmp x y ≡ Equal
        by_order Less is = absurd (false≢true (sym above ∙ ap is_lt is))
        by_order Equal is = is
        by_order Greater is = absurd (false≢true (sym below ∙ ap is_lt (total.antisymm y x ∙ ap ordering_reverse is)))

    sorted_tail : (x : X) (xs : List X) → IsSorted cmp (x ∷ xs) → IsSorted cmp xs
    sorted_tail x xs sorted k d low below = let next : suc k + 1 ≡ suc (k + 1) = omega arith in rw next at (sorted (suc k) d (omega arith) (omega arith))

    counts_once : (xs ys : List X) → IsSorted cmp xs → IsSorted cmp ys → ((q : X) → count q xs ≡ count q ys) → xs ≡ ys
    counts_once [] [] sorted also same = refl
    counts_once [] (y ∷ ys) sorted also same = absurd (omega (arith, same y, counted y ys))
    counts_once (x ∷ xs) [] sorted also same = absurd (omega (arith, same x, counted x xs))
    counts_once (x ∷ xs) (y ∷ ys) sorted also same =
        let in_ys = found x (y ∷ ys) (omega (arith, same x, counted x xs)) in
        let in_xs = found y (x ∷ xs) (omega (arith, same y, counted y ys)) in
        let head : x ≡ y = exact x y (tied x y (head_least y ys also x in_ys) (head_least x xs sorted y in_xs)) in
        let rest : xs ≡ ys = counts_once xs ys (sorted_tail x xs sorted) (sorted_tail y ys also)
        (λ q. omega (arith, same q, count-cons q x xs, count-cons q y ys, ap {B = ℕ} (λ w. cond (is_eq (cmp q w)) 1 0) head)) in
        ap (λ z. z ∷ xs) head ∙ ap (λ zs. y ∷ zs) rest

    pub sorted_once : (zs xs ys : List X) → IsPermutation zs xs → IsPermutation zs ys → IsSorted cmp xs → IsSorted cmp ys → xs ≡ ys
    sorted_once zs xs ys one other sorted also =
        counts_once xs ys sorted also
        (λ q. sum_by-IsPermutation (λ y. cond (is_eq (cmp q y)) 1 0) zs xs one ∙ sym (sum_by-IsPermutation (λ y. cond (is_eq (cmp q y)) 1 0) zs ys other))
