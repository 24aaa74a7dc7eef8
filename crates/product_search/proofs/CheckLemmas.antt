-- A label is found in a list by halving.
use Rattle.plan_base.proofs.Common.{◌≡◌, ℕ, ◌<◌, ◌≤◌, Bool, List, length, get_or, inl, inr, sym, ◌∙◌, ap, subst, arith, IsTrue, Contains, ◌↔◌, IsTotalOrder, nat_cmp, ordering_reverse, cases_lt, cases_order, nat_tests, then_total, on_total, nat_cmp_total, get_or_default, Contains-get_or, exact_pairs, exact_unsigned, Less, Equal, Greater}
use Rattle.product_search.specs.{Label, label_of, label_cmp, AreAscendingLabels, IsListedBy}

pub label_total : IsTotalOrder label_cmp
label_total = then_total (on_total (λ (x : Label). x.node) nat_cmp_total) (on_total (λ (x : Label). x.state) nat_cmp_total)

-- what is before a label that is below, is below
pub below_up_to : (list : List Label) → AreAscendingLabels list → (m : ℕ) (x y d : Label) → m < length list → x ≡ get_or list m x → label_cmp x y ≡ Less
    → (i : ℕ) → i ≤ m → label_cmp (get_or list i d) y ≡ Less
below_up_to list ascending m x y d lt is below i le = elim (cases_lt i m) [
  | inr ge ↦ (let e : i ≡ m = omega arith in rw e (subst (λ z. label_cmp z y ≡ Less) (is ∙ get_or_default list m x d lt) below))
  | inl before ↦ label_total.trans (get_or list i d) (get_or list m d) y (ascending i m d before lt)
      (subst (λ z. label_cmp z y ≡ Less) (is ∙ get_or_default list m x d lt) below)
]

reverse_greater : (x y : Label) → label_cmp x y ≡ Greater → label_cmp y x ≡ Less
reverse_greater x y e = label_total.antisymm y x ∙ ap ordering_reverse e

reverse_less : (x y : Label) → label_cmp y x ≡ Less → label_cmp x y ≡ Greater
reverse_less x y e = label_total.antisymm x y ∙ ap ordering_reverse e

-- what is after a label that is above, is above
pub above_from : (list : List Label) → AreAscendingLabels list → (m : ℕ) (x y d : Label) → m < length list → x ≡ get_or list m x → label_cmp x y ≡ Greater
    → (i : ℕ) → m ≤ i → i < length list → label_cmp (get_or list i d) y ≡ Greater
above_from list ascending m x y d lt is above i le in_range = elim (cases_lt m i) [
  | inr ge ↦ (let e : i ≡ m = omega arith in rw e (subst (λ z. label_cmp z y ≡ Greater) (is ∙ get_or_default list m x d lt) above))
  | inl after ↦ reverse_less (get_or list i d) y (label_total.trans y (get_or list m d) (get_or list i d)
      (reverse_greater (get_or list m d) y (subst (λ z. label_cmp z y ≡ Greater) (is ∙ get_or_default list m x d lt) above)) (ascending m i d after in_range))
]

label_same : (x y : Label) → label_cmp x y ≡ Equal → (x.node ≡ y.node) × (x.state ≡ y.state)
label_same x y e =
    let pair = exact_pairs nat_cmp nat_cmp exact_unsigned exact_unsigned (x.node, x.state) (y.node, y.state) e in
    (ap (λ (p : ℕ × ℕ). p.0) pair, ap (λ (p : ℕ × ℕ). p.1) pair)

same_tied : (v q s t : ℕ) → label_cmp (label_of v q s) (label_of v q t) ≡ Equal
same_tied v q s t = grind (arith, nat_tests)

-- the label that was found is the one of its product state
pub found_is : (list : List Label) → AreAscendingLabels list → (m : ℕ) (x : Label) (v q t : ℕ) → m < length list → x ≡ get_or list m x → label_cmp x (label_of v q t) ≡ Equal
    → (b : Bool) → (IsTrue b ↔ (x.at ≤ t)) → IsTrue b ↔ IsListedBy list v q t
found_is list ascending m x v q t lt is equal b test = (λ yes. (x.at, test.0 yes, there), λ listed. test.1 (late listed)) where
  same : x ≡ label_of v q x.at
  same = let p = label_same x (label_of v q t) equal in ap (λ a. label_of a x.state x.at) p.0 ∙ ap (λ a. label_of v a x.at) p.1

  there : Contains list (label_of v q x.at)
  there = subst (λ y. Contains list y) (sym is ∙ same) (Contains-get_or list m x lt)

  late : IsListedBy list v q t → x.at ≤ t
  late (at, le, (k, in_range, at_k)) = elim (cases_order k m) [
    | inl e ↦ (let other : label_of v q at ≡ x = sym at_k ∙ ap (λ i. get_or list i (label_of v q at)) e ∙ get_or_default list m (label_of v q at) x lt ∙ sym is in
        subst (λ s. s ≤ t) (ap (λ (y : Label). y.at) other) le)
    | inr apart ↦ elim apart [
      | inl before ↦ (let less : Less ≡ Equal = sym (ascending k m x before lt) ∙ ap (λ a. label_cmp a (get_or list m x)) (at_place k in_range at_k)
          ∙ ap (λ a. label_cmp (label_of v q at) a) (sym is ∙ same) ∙ same_tied v q at x.at in cc)
      | inr after ↦ (let less : Less ≡ Equal = sym (ascending m k x after in_range) ∙ ap (λ a. label_cmp (get_or list m x) a) (at_place k in_range at_k)
          ∙ ap (λ a. label_cmp a (label_of v q at)) (sym is ∙ same) ∙ same_tied v q x.at at in cc)
    ]
  ] where
    at_place : (k : ℕ) → k < length list → get_or list k (label_of v q at) ≡ label_of v q at → get_or list k x ≡ label_of v q at
    at_place k in_range at_k = get_or_default list k x (label_of v q at) in_range ∙ at_k
