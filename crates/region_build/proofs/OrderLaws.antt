-- What is sorted, and holds each key once, ascends strictly.
use Rattle.plan_base.proofs.Common.{◌≡◌, ℕ, suc, ◌+◌, ◌≤◌, List, [], ◌∷◌, ◌++◌, map, Bool, true, false, cond, None, ◌⊎◌, inl, inr, ⊎_elim, refl, sym, ap, ◌∙◌, arith, count_by, IsEquivalence, IsTotalOrder, All, AllByRecursion, IsPermutation, IsSorted, is_eq, is_lt, ordering_reverse, Ordering, Less, Equal, Greater, false_from_ne_true, false≢true, tied_itself, All-head, All-tail, sum_by-IsPermutation, sum_by-append, sum_by-cons}
use Rattle.std.specs.List.{IsDistinct}
use Rattle.mode_network.specs.{first_unsorted}

module _ {X : Type 0} (same : X → X → Bool) where
  -- whichever it is, at most one element is the same as it
  abbrev pub Once : List X → Type 0
  Once xs = (q : X) → count_by (same q) xs ≤ 1

  -- none is
  abbrev pub None_of : X → List X → Type 0
  None_of q xs = count_by (same q) xs ≡ 0

  pub once_nil : Once []
  once_nil q = omega arith

  pub count-cons : (q x : X) (xs : List X) → count_by (same q) (x ∷ xs) ≡ cond (same q x) 1 0 + count_by (same q) xs
  count-cons q x xs = sum_by-cons (λ y. cond (same q y) 1 0) x xs

  pub count-append : (q : X) (xs ys : List X) → count_by (same q) (xs ++ ys) ≡ count_by (same q) xs + count_by (same q) ys
  count-append q xs ys = sum_by-append (λ y. cond (same q y) 1 0) xs ys

  -- one element more, which is the same as none of the others
  pub once_cons : (x : X) (xs : List X) → ((q : X) → same q x ≡ true → None_of q xs) → Once xs → Once (x ∷ xs)
  once_cons x xs apart others q = by_test (same q x) refl
    where
      by_test : (t : Bool) → same q x ≡ t → count_by (same q) (x ∷ xs) ≤ 1
      by_test true e = omega (arith, count-cons q x xs, ap {B = ℕ} (λ b. cond b 1 0) e, apart q e)
      by_test false e = omega (arith, count-cons q x xs, ap {B = ℕ} (λ b. cond b 1 0) e, others q)

  pub none_cons : (q x : X) (xs : List X) → same q x ≡ false → None_of q xs → None_of q (x ∷ xs)
  none_cons q x xs e none = omega (arith, count-cons q x xs, ap {B = ℕ} (λ b. cond b 1 0) e, none)

  -- none is the same as q, where each differs from it
  pub none_if : (P : X → Type 0) (q : X) → ((x : X) → P x → same q x ≡ false) → (xs : List X) → All P xs → None_of q xs
  none_if P q differs [] all = refl
  none_if P q differs (x ∷ xs) all = none_cons q x xs (differs x (All-head P x xs all)) (none_if P q differs xs (All-tail P x xs all))

  pub once_tail : (x : X) (xs : List X) → Once (x ∷ xs) → Once xs
  once_tail x xs once q = omega (arith, count-cons q x xs, once q)

  -- two lists whose elements are never the same
  pub once_apart : (P Q : X → Type 0) → ((q x y : X) → P x → Q y → same q x ≡ true → same q y ≡ true → ⊥)
      → (xs ys : List X) → All P xs → All Q ys → Once xs → Once ys → Once (xs ++ ys)
  once_apart P Q clash [] ys front back once_front once_back = once_back
  once_apart P Q clash (x ∷ xs) ys front back once_front once_back =
      once_cons x (xs ++ ys)
      (λ q e.
      let none = none_if Q q (λ y r. false_from_ne_true (same q y) (clash q x y (All-head P x xs front) r e)) ys back in
      omega (arith, count-append q xs ys, count-cons q x xs, ap {B = ℕ} (λ b. cond b 1 0) e, once_front q, none))
      (once_apart P Q clash xs ys (All-tail P x xs front) back (once_tail x xs once_front) once_back)

  pub once_permutation : (xs ys : List X) → IsPermutation xs ys → Once xs → Once ys
  once_permutation xs ys moved once q = omega (arith, sum_by-IsPermutation (λ y. cond (same q y) 1 0) xs ys moved, once q)

-- what has distinct keys has each once
module _ {X K : Type 0} {eq : K → K → Bool} (laws : IsEquivalence eq) (key : X → K) where
  abbrev by_key : X → X → Bool
  by_key x y = eq (key x) (key y)

  none_behind : (q x : X) → eq (key q) (key x) ≡ true → (xs : List X) → AllByRecursion (λ y. eq (key x) y ≡ false) (map key xs) → None_of by_key q xs
  none_behind q x e [] all = refl
  none_behind q x e (y ∷ ys) all = none_cons by_key q y ys (laws.congr (key q) (key x) (key y) e ∙ all.0) (none_behind q x e ys all.1)

  pub once_distinct : (xs : List X) → IsDistinct eq (map key xs) → Once by_key xs
  unfolding IsDistinct
  once_distinct [] distinct = once_nil by_key
  once_distinct (x ∷ xs) distinct = once_cons by_key x xs (λ q e. none_behind q x e xs distinct.0) (once_distinct xs distinct.1)

-- neighbours ascend strictly
module _ {X : Type 0} (cmp : X → X → Ordering) where
  abbrev pub Rises : List X → Type 0
  Rises [] = Unit {0}
  Rises (x ∷ []) = Unit {0}
  Rises (x ∷ y ∷ ys) = (is_lt (cmp x y) ≡ true) × Rises (y ∷ ys)

  pub rises_sorted : (k : ℕ) (xs : List X) → Rises xs → first_unsorted cmp k xs ≡ None
  rises_sorted k [] h = refl
  rises_sorted k (x ∷ []) h = refl
  rises_sorted k (x ∷ y ∷ ys) h = rw h.0 (rises_sorted (k + 1) (y ∷ ys) h.1)

  less : (o : Ordering) → is_lt o ≡ true ⊎ (is_eq o ≡ true ⊎ (o ≡ Greater))
  less Less = inl refl
  less Equal = inr (inl refl)
  less Greater = inr (inr refl)

  abbrev pub same_key : X → X → Bool
  same_key x y = is_eq (cmp x y)

  module _ (total : IsTotalOrder cmp) where
    flips : (x y : X) → cmp x y ≡ Greater → is_lt (cmp y x) ≡ true
    flips x y e = ap is_lt (total.antisymm y x ∙ ap ordering_reverse e)

    itself : (x : X) → is_eq (cmp x x) ≡ true
    itself x = ap is_eq (tied_itself total x)

    twice : (x y : X) (ys : List X) → same_key x y ≡ true → 2 ≤ count_by (same_key x) (x ∷ y ∷ ys)
    twice x y ys e =
        omega (arith, count-cons same_key x x (y ∷ ys), count-cons same_key x y ys, ap {B = ℕ} (λ b. cond b 1 0) e, ap {B = ℕ} (λ b. cond b 1 0) (itself x))

    pub rises_from_sorted : (xs : List X) → IsSorted cmp xs → Once same_key xs → Rises xs
    rises_from_sorted [] sorted once = tt
    rises_from_sorted (x ∷ []) sorted once = tt
    rises_from_sorted (x ∷ y ∷ ys) sorted once = (
      above,
      rises_from_sorted (y ∷ ys)
          (λ k d low below.
          let next : suc k + 1 ≡ suc (k + 1) = omega arith in
          rw next at (sorted (suc k) d (omega arith) (omega arith)))
          (once_tail same_key x (y ∷ ys) once),
    )
      where
        not_below : is_lt (cmp y x) ≡ false
        not_below = sorted 0 x (omega arith) (omega arith)

        above : is_lt (cmp x y) ≡ true
        above = ⊎_elim
            (λ below. below)
            (λ other. ⊎_elim
            (λ equal. absurd (omega (arith, twice x y ys equal, once x)))
            (λ greater. absurd (false≢true (sym not_below ∙ flips x y greater)))
            other)
            (less (cmp x y))

-- a list is in order too where each of its elements is made of one that is
module _ {X Y : Type 0} (cmp : X → X → Ordering) (by : Y → Y → Ordering) (f : X → Y) (keeps : (a b : X) → is_lt (cmp a b) ≡ true → is_lt (by (f a) (f b)) ≡ true) where
  pub rises_map : (xs : List X) → Rises cmp xs → Rises by (map f xs)
  rises_map [] h = tt
  rises_map (x ∷ []) h = tt
  rises_map (x ∷ y ∷ ys) h = (keeps x y h.0, rises_map (y ∷ ys) h.1)

-- and where what is made of its elements is
module _ {X Y : Type 0} (by : Y → Y → Ordering) (f : X → Y) where
  pub rises_by : (xs : List X) → Rises by (map f xs) → Rises (λ a b. by (f a) (f b)) xs
  rises_by [] h = tt
  rises_by (x ∷ []) h = tt
  rises_by (x ∷ y ∷ ys) h = (h.0, rises_by (y ∷ ys) h.1)

-- one more at the end, above all others
module _ {X : Type 0} (cmp : X → X → Ordering) where
  pub rises_push : (xs : List X) (y : X) → Rises cmp xs → All (λ x. is_lt (cmp x y) ≡ true) xs → Rises cmp (xs ++ y ∷ [])
  rises_push [] y h above = tt
  rises_push (x ∷ []) y h above = (All-head (λ x. is_lt (cmp x y) ≡ true) x [] above, tt)
  rises_push (x ∷ z ∷ zs) y h above = (h.0, rises_push (z ∷ zs) y h.1 (All-tail (λ x. is_lt (cmp x y) ≡ true) x (z ∷ zs) above))
