-- Labels can be sorted, so those of an answer are as many as the list of them is long.
use Rattle.plan_base.proofs.Common.{◌≡◌, ℕ, ◌+◌, zero, suc, Bool, true, false, cond, List, [], ◌∷◌, length, filter_map, get_or, refl, sym, subst, arith, Option, ⊤, IsSorted, IsPermutation, is_lt, ranks_by, IsPermutation-trans, length_permutation}
use Rattle.std.proofs.lemmas.List.Sorted.{IsPermutation-refl, IsPermutation-cons, IsPermutation-middle}
use Rattle.search_laws.specs.{GraphMeaning, LabelsMeaning}
use Rattle.product_search.specs.{Label, IsWithin, label_order, HasLeastLabels, declared.label.Best.Best, declared.frontier.Frontier.Frontier, inside.rows, inside.IsAnswered, inside.label_of_row}
use Rattle.product_search.proofs.ListLemmas.{order_total, least_labels}

abbrev is_less : Label → Label → Bool
is_less x y = is_lt (label_order x y)

abbrev put_in : Label → List Label → List Label
put_in x [] = x ∷ []
put_in x (y ∷ ys) = cond (is_less y x) (y ∷ put_in x ys) (x ∷ y ∷ ys)

abbrev pub sorted : List Label → List Label
sorted [] = []
sorted (x ∷ xs) = put_in x (sorted xs)

-- ---- the same labels

put_in_moves : (x : Label) (ys : List Label) → IsPermutation (x ∷ ys) (put_in x ys)
put_in_moves x [] = IsPermutation-refl (x ∷ [])
put_in_moves x (y ∷ ys) = by_test (is_less y x) (put_in_moves x ys)
  where
    by_test : (b : Bool) → IsPermutation (x ∷ ys) (put_in x ys) → IsPermutation (x ∷ y ∷ ys) (cond b (y ∷ put_in x ys) (x ∷ y ∷ ys))
    by_test true rest = IsPermutation-trans (x ∷ y ∷ ys) (y ∷ x ∷ ys) (y ∷ put_in x ys) (IsPermutation-middle (x ∷ []) y ys)
        (IsPermutation-cons y (x ∷ ys) (put_in x ys) rest)
    by_test false rest = IsPermutation-refl (x ∷ y ∷ ys)

pub sorted_moves : (xs : List Label) → IsPermutation xs (sorted xs)
sorted_moves [] = IsPermutation-refl []
sorted_moves (x ∷ xs) = IsPermutation-trans (x ∷ xs) (x ∷ sorted xs) (put_in x (sorted xs)) (IsPermutation-cons x xs (sorted xs) (sorted_moves xs))
    (put_in_moves x (sorted xs))

-- ---- in order

-- the first of these labels, if there is one, is not less than x
abbrev IsUp : Label → List Label → Type 0
IsUp x [] = ⊤
IsUp x (y ∷ ys) = is_less y x ≡ false

-- a label and the next, in a list and in one with a label before
abbrev NotLess : List Label → ℕ → Label → ℕ → Type 0
NotLess xs next d k = is_less (get_or xs next d) (get_or xs k d) ≡ false

up_sorted : (x : Label) (ys : List Label) → IsUp x ys → IsSorted label_order ys → IsSorted label_order (x ∷ ys)
up_sorted x [] up order k d low lt = absurd (omega arith)
up_sorted x (y ∷ ys) up order zero d low lt = up
up_sorted x (y ∷ ys) up order (suc k) d low lt =
    let next : suc (k + 1) ≡ suc k + 1 = omega arith in
    subst (λ n. NotLess (x ∷ y ∷ ys) n d (suc k)) next (order k d (omega arith) (omega arith))

sorted_up : (x : Label) (ys : List Label) → IsSorted label_order (x ∷ ys) → IsUp x ys
sorted_up x [] order = tt
sorted_up x (y ∷ ys) order = order 0 x (omega arith) (omega arith)

sorted_rest : (x : Label) (ys : List Label) → IsSorted label_order (x ∷ ys) → IsSorted label_order ys
sorted_rest x ys order k d low lt =
    let next : suc k + 1 ≡ suc (k + 1) = omega arith in
    subst (λ n. NotLess (x ∷ ys) n d (suc k)) next (order (suc k) d (omega arith) (omega arith))

put_in_up : (w x : Label) (ys : List Label) → is_less x w ≡ false → IsUp w ys → IsUp w (put_in x ys)
put_in_up w x [] first up = first
put_in_up w x (y ∷ ys) first up = by_test (is_less y x)
  where
    by_test : (b : Bool) → IsUp w (cond b (y ∷ put_in x ys) (x ∷ y ∷ ys))
    by_test true = up
    by_test false = first

put_in_order : (x : Label) (ys : List Label) → IsSorted label_order ys → IsSorted label_order (put_in x ys)
put_in_order x [] order = up_sorted x [] tt order
put_in_order x (y ∷ ys) order = by_test (is_less y x) refl (put_in_order x ys (sorted_rest y ys order))
  where
    by_test : (b : Bool) → is_less y x ≡ b → IsSorted label_order (put_in x ys) → IsSorted label_order (cond b (y ∷ put_in x ys) (x ∷ y ∷ ys))
    by_test true less rest = up_sorted y (put_in x ys) (put_in_up y x ys ((ranks_by order_total (λ (z : Label). z)).one_way y x less) (sorted_up y ys order)) rest
    by_test false up rest = up_sorted x (y ∷ ys) up order

pub sorted_in_order : (xs : List Label) → IsSorted label_order (sorted xs)
sorted_in_order [] = λ k d low lt. absurd (omega arith)
sorted_in_order (x ∷ xs) = put_in_order x (sorted xs) (sorted_in_order xs)

-- ---- the labels of an answer, counted

pub least_counted : (g : GraphMeaning) (l : LabelsMeaning) (starts targets : List ℕ) (dep : ℕ) (bound : Option ℕ) → IsWithin bound dep → (f : Frontier) (best : Best)
    → IsAnswered g l starts targets dep bound f best → HasLeastLabels g l starts dep bound best.arrival (length (filter_map (label_of_row f.base f.until) (rows f)))
least_counted g l starts targets dep bound within f best answered =
    let found = filter_map (label_of_row f.base f.until) (rows f) in (
      sorted found,
      least_labels g l starts targets dep bound within f best answered (sorted found) (sorted_in_order found) (sorted_moves found),
      sym (length_permutation found (sorted found) (sorted_moves found)),
    )
