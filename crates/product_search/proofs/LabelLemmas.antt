-- There is one list of the least labels.
use Rattle.plan_base.proofs.Common.{◌≡◌, ℕ, zero, suc, ◌⊎◌, List, [], ◌∷◌, inl, inr, refl, sym, ◌∙◌, ap, subst, arith, Option, Contains, length, ◌≤◌, ordering_reverse, All-contains, Less}
use Rattle.search_laws.specs.{GraphMeaning, LabelsMeaning}
use Rattle.product_search.specs.{Label, IsLeastAt, IsToList, IsBelow, AreAscendingLabels, AreLeastLabels}
use Rattle.product_search.proofs.CheckLemmas.{label_total}

-- ---- ascending lists with the same labels

tail_ascends : (x : Label) (xs : List Label) → AreAscendingLabels (x ∷ xs) → AreAscendingLabels xs
tail_ascends x xs ascending i j d lt in_range = ascending (suc i) (suc j) d (omega arith) (omega arith)

head_below : (x : Label) (xs : List Label) → AreAscendingLabels (x ∷ xs) → (y : Label) → Contains xs y → IsBelow x y
head_below x xs ascending y (k, lt, is) = subst (λ z. IsBelow x z) is (ascending zero (suc k) y (omega arith) (omega arith))

head_or_tail : (x : Label) (xs : List Label) (y : Label) → Contains (x ∷ xs) y → (x ≡ y) ⊎ Contains xs y
head_or_tail x xs y (zero, lt, is) = inl is
head_or_tail x xs y (suc k, lt, is) = inr (k, (omega arith), is)

in_tail : (x : Label) (xs : List Label) (y : Label) → Contains xs y → Contains (x ∷ xs) y
in_tail x xs y (k, lt, is) = (suc k, (omega arith), is)

not_both : {G : Type 0} (x y : Label) → IsBelow x y → IsBelow y x → G
not_both x y below above = let e : Less ≡ ordering_reverse Less = sym below ∙ label_total.antisymm x y ∙ ap ordering_reverse above in cc

abbrev pub SubList : List Label → List Label → Type 0
SubList xs ys = (z : Label) → Contains xs z → Contains ys z

same_head : (x y : Label) (xs ys : List Label) → AreAscendingLabels (x ∷ xs) → AreAscendingLabels (y ∷ ys) → SubList (x ∷ xs) (y ∷ ys) → SubList (y ∷ ys) (x ∷ xs) → x ≡ y
same_head x y xs ys up above there back = elim (head_or_tail y ys x (there x (0, (omega arith), refl))) [
  | inl e ↦ sym e
  | inr below ↦ elim (head_or_tail x xs y (back y (0, (omega arith), refl))) [
    | inl e ↦ e
    | inr also ↦ not_both x y (head_below x xs up y also) (head_below y ys above x below)
  ]
]

tails : (x y : Label) (xs ys : List Label) → x ≡ y → AreAscendingLabels (x ∷ xs) → SubList (x ∷ xs) (y ∷ ys) → SubList xs ys
tails x y xs ys same up there z has = elim (head_or_tail y ys z (there z (in_tail x xs z has))) [
  | inr in_ys ↦ in_ys
  | inl e ↦ (let below : IsBelow x x = subst (λ w. IsBelow x w) (sym (same ∙ e)) (head_below x xs up z has) in not_both x x below below)
]

same_lists : (xs ys : List Label) → AreAscendingLabels xs → AreAscendingLabels ys → SubList xs ys → SubList ys xs → xs ≡ ys
same_lists [] [] up above there back = refl
same_lists [] (y ∷ ys) up above there back = let h = back y (0, (omega arith), refl) in absurd (omega (arith, h.1))
same_lists (x ∷ xs) [] up above there back = let h = there x (0, (omega arith), refl) in absurd (omega (arith, h.1))
same_lists (x ∷ xs) (y ∷ ys) up above there back =
    let head : x ≡ y = same_head x y xs ys up above there back in
    let tail : xs ≡ ys = same_lists xs ys (tail_ascends x xs up) (tail_ascends y ys above) (tails x y xs ys head up there) (tails y x ys xs (sym head) above back) in
    ap (λ z. z ∷ xs) head ∙ ap (λ zs. y ∷ zs) tail

-- where the first of some labels is behind y, so are they all
past : (x y : Label) (xs ys : List Label) → AreAscendingLabels (x ∷ xs) → AreAscendingLabels (y ∷ ys) → Contains ys x → SubList (x ∷ xs) (y ∷ ys) → SubList (x ∷ xs) ys
past x y xs ys up above below there z has = elim (head_or_tail y ys z (there z has)) [
  | inr in_ys ↦ in_ys
  | inl e ↦ elim (head_or_tail x xs z has) [
    | inl same ↦ subst (λ w. Contains ys w) same below
    | inr later ↦ not_both y x (head_below y ys above x below) (subst (λ w. IsBelow x w) (sym e) (head_below x xs up z later))
  ]
]

-- a list whose labels are all in another one is no longer
pub no_longer : (xs ys : List Label) → AreAscendingLabels xs → AreAscendingLabels ys → SubList xs ys → length xs ≤ length ys
no_longer [] ys up above there = omega arith
no_longer (x ∷ xs) [] up above there = let h = there x (0, (omega arith), refl) in absurd (omega (arith, h.1))
no_longer (x ∷ xs) (y ∷ ys) up above there = elim (head_or_tail y ys x (there x (0, (omega arith), refl))) [
  | inl e ↦ (let le = no_longer xs ys (tail_ascends x xs up) (tail_ascends y ys above) (tails x y xs ys (sym e) up there) in omega (arith, le))
  | inr below ↦ (let le = no_longer (x ∷ xs) ys up (tail_ascends y ys above) (past x y xs ys up above below there) in omega (arith, le))
]

-- ---- the least labels

module _ (g : GraphMeaning) (l : LabelsMeaning) (starts : List ℕ) (dep : ℕ) (bound arrival : Option ℕ) where
  has_all : (xs ys : List Label) → AreLeastLabels g l starts dep bound arrival xs → AreLeastLabels g l starts dep bound arrival ys → SubList xs ys
  has_all xs ys first next z has =
      let least = All-contains (λ x. IsLeastAt g l starts dep x.node x.state x.at × IsToList bound arrival x.at) xs z first.least has in
      next.complete z.node z.state z.at least.0 least.1

  pub labels_unique : (xs ys : List Label) → AreLeastLabels g l starts dep bound arrival xs → AreLeastLabels g l starts dep bound arrival ys → xs ≡ ys
  labels_unique xs ys first next = same_lists xs ys first.ascending next.ascending (has_all xs ys first next) (has_all ys xs next first)
