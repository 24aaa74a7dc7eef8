-- Rows of delays, and what lowering them does.
use Rattle.plan_base.proofs.Common.{◌≡◌, ◌≢◌, ◌∙◌, ℕ, zero, suc, ◌+◌, ◌<◌, ◌≤◌, inl, inr, List, [], ◌∷◌, ◌++◌, length, set, get_or, refl, sym, ap, subst, arith, Vec, Global, cases_eq, length-set, length_push, below_more, get_or-set_other, get_or-set_same, Some, subst₂, slice_get, slice_get_within, slice_get-get_or, get_or_from_slice_get, get_or_push, get_or_append_left}
use Rattle.sweeps.specs.{time_at}
use Rattle.rounds.specs.inside.{row_of, cell, HaveShape, AreLowered, IsRowLowered}

-- ---- lists that go on

-- P holds of each element at its place, and of one more
pub each_more : {X : Type 0} (P : ℕ → X → Type 0) (xs : List X) (y : X) → ((k : ℕ) (x : X) → slice_get xs k ≡ Some x → P k x) → P (length xs) y → (k : ℕ) (x : X) → slice_get (xs ++ y ∷ []) k ≡ Some x → P k x
each_more {X} P xs y each here k x at =
    let lt = slice_get_within (xs ++ y ∷ []) k x at in
    let read = get_or_from_slice_get (xs ++ y ∷ []) k x x at in
    elim (cases_eq k (length xs)) [
      | inl last ↦ subst₂ P (sym last) (sym (get_or_push xs y x k (sym last)) ∙ read) here
      | inr other ↦ (let inside : k < length xs = omega (arith, lt, other, length_push xs y) in
          each k x (slice_get-get_or xs k x inside ∙ ap Some (sym (get_or_append_left xs (y ∷ []) x k inside) ∙ read)))
    ]

-- ---- which row stands where

-- the row that is set is the one that stands there
pub row-set_same : (rows : List (Vec ℕ Global)) (k : ℕ) (row : Vec ℕ Global) → k < length rows → row_of (set rows k row) k ≡ row.items
row-set_same [] k row lt = absurd (omega (arith, lt))
row-set_same (a ∷ rows) zero row lt = refl
row-set_same (a ∷ rows) (suc k) row lt = row-set_same rows k row (omega (arith, lt))

-- and no other changes
pub row-set_other : (rows : List (Vec ℕ Global)) (i k : ℕ) (row : Vec ℕ Global) → k ≢ i → row_of (set rows i row) k ≡ row_of rows k
row-set_other [] i k row other = refl
row-set_other (a ∷ rows) zero zero row other = absurd (other refl)
row-set_other (a ∷ rows) zero (suc k) row other = refl
row-set_other (a ∷ rows) (suc i) zero row other = refl
row-set_other (a ∷ rows) (suc i) (suc k) row other = row-set_other rows i k row (λ e. other (ap suc e))

-- a row is what indexing finds
pub row-get_or : (rows : List (Vec ℕ Global)) (k : ℕ) (d : Vec ℕ Global) → k < length rows → row_of rows k ≡ (get_or rows k d).items
row-get_or [] k d lt = absurd (omega (arith, lt))
row-get_or (a ∷ rows) zero d lt = refl
row-get_or (a ∷ rows) (suc k) d lt = row-get_or rows k d (omega (arith, lt))

-- so its own is that of what was found there
pub row_is : (rows : List (Vec ℕ Global)) (k : ℕ) (found : Vec ℕ Global) → k < length rows → found ≡ get_or rows k found → row_of rows k ≡ found.items
row_is rows k found lt is = row-get_or rows k found lt ∙ ap (λ (v : Vec ℕ Global). v.items) (sym is)

-- rows stay where one more comes behind them
pub row-push_before : (rows : List (Vec ℕ Global)) (row : Vec ℕ Global) (k : ℕ) → k < length rows → row_of (rows ++ row ∷ []) k ≡ row_of rows k
row-push_before [] row k lt = absurd (omega (arith, lt))
row-push_before (a ∷ rows) row zero lt = refl
row-push_before (a ∷ rows) row (suc k) lt = row-push_before rows row k (omega (arith, lt))

-- which is the last then
pub row-push : (rows : List (Vec ℕ Global)) (row : Vec ℕ Global) (k : ℕ) → k ≡ length rows → row_of (rows ++ row ∷ []) k ≡ row.items
row-push [] row zero is = refl
row-push [] row (suc k) is = absurd (omega (arith, is))
row-push (a ∷ rows) row zero is = absurd (omega (arith, is))
row-push (a ∷ rows) row (suc k) is = row-push rows row k (omega (arith, is))

-- past the end they are empty
pub row_past : (rows : List (Vec ℕ Global)) (k : ℕ) → length rows ≤ k → row_of rows k ≡ []
row_past [] k past = refl
row_past (a ∷ rows) zero past = absurd (omega (arith, past))
row_past (a ∷ rows) (suc k) past = row_past rows k (omega (arith, past))

-- ---- lowering

-- a row is no later than itself
pub row_same : (P : ℕ → ℕ → Type 0) (row : List ℕ) → IsRowLowered P row row
row_same P row = record { as_many = refl; no_later = λ i. omega arith; by = λ i. inl refl }

-- a row that is lowered, and again
pub row_then : (P : ℕ → ℕ → Type 0) (a b c : List ℕ) → IsRowLowered P a b → IsRowLowered P b c → IsRowLowered P a c
row_then P a b c first then = record {
  as_many = then.as_many ∙ first.as_many;
  no_later = λ i. omega (arith, first.no_later i, then.no_later i);
  by = λ i. elim (then.by i) [
    | inl stays ↦ elim (first.by i) [
      | inl before ↦ inl (stays ∙ before)
      | inr p ↦ inr (subst (P i) (sym stays) p)
    ]
    | inr p ↦ inr p
  ];
}

-- what it is lowered by may be more
pub row_weaker : (P Q : ℕ → ℕ → Type 0) (a b : List ℕ) → ((i t : ℕ) → P i t → Q i t) → IsRowLowered P a b → IsRowLowered Q a b
row_weaker P Q a b on lowered = record {
  as_many = lowered.as_many;
  no_later = lowered.no_later;
  by = λ i. elim (lowered.by i) [
    | inl stays ↦ inl stays
    | inr p ↦ inr (on i _ p)
  ];
}

-- where a delay is made less, the row is lowered there
pub row_set : (row : List ℕ) (place delay : ℕ) → place < length row → delay ≤ time_at row place → IsRowLowered (λ i t. (i ≡ place) × (t ≡ delay)) row (set row place delay)
row_set row place delay lt less = record {
  as_many = length-set row place delay;
  no_later = λ i. elim (cases_eq i place) [
    | inl same ↦ (let is = at i same in let was : time_at row i ≡ time_at row place = ap (time_at row) same in omega arith)
    | inr other ↦ (let is : time_at (set row place delay) i ≡ time_at row i = get_or-set_other row place i delay 0 other in omega arith)
  ];
  by = λ i. elim (cases_eq i place) [
    | inl same ↦ inr (same, at i same)
    | inr other ↦ inl (get_or-set_other row place i delay 0 other)
  ];
} where
  at : (i : ℕ) → i ≡ place → time_at (set row place delay) i ≡ delay
  at i same = ap (time_at (set row place delay)) same ∙ get_or-set_same row place delay 0 lt

-- rows are no later than themselves
pub lowered_same : (P : ℕ → ℕ → ℕ → Type 0) (rows : List (Vec ℕ Global)) → AreLowered P rows rows
lowered_same P rows = record { count_is = refl; width_is = λ k. refl; no_later = λ k i. omega arith; by = λ k i. inl refl }

-- rows that are lowered, and again
pub lowered_then : (P : ℕ → ℕ → ℕ → Type 0) (a b c : List (Vec ℕ Global)) → AreLowered P a b → AreLowered P b c → AreLowered P a c
lowered_then P a b c first then = record {
  count_is = then.count_is ∙ first.count_is;
  width_is = λ k. then.width_is k ∙ first.width_is k;
  no_later = λ k i. omega (arith, first.no_later k i, then.no_later k i);
  by = λ k i. elim (then.by k i) [
    | inl stays ↦ elim (first.by k i) [
      | inl before ↦ inl (stays ∙ before)
      | inr p ↦ inr (subst (P k i) (sym stays) p)
    ]
    | inr p ↦ inr p
  ];
}

-- what they are lowered by may be more
pub lowered_weaker : (P Q : ℕ → ℕ → ℕ → Type 0) (a b : List (Vec ℕ Global)) → ((k i t : ℕ) → P k i t → Q k i t) → AreLowered P a b → AreLowered Q a b
lowered_weaker P Q a b on lowered = record {
  count_is = lowered.count_is;
  width_is = lowered.width_is;
  no_later = lowered.no_later;
  by = λ k i. elim (lowered.by k i) [
    | inl stays ↦ inl stays
    | inr p ↦ inr (on k i _ p)
  ];
}

-- where one row is lowered, all of them are
pub lowered_row : (P : ℕ → ℕ → ℕ → Type 0) (rows : List (Vec ℕ Global)) (k : ℕ) (row : Vec ℕ Global) → k < length rows → IsRowLowered (P k) (row_of rows k) row.items → AreLowered P rows (set rows k row)
lowered_row P rows k row lt lowered = record {
  count_is = length-set rows k row;
  width_is = λ j. elim (cases_eq j k) [
    | inl same ↦ ap length (here j same) ∙ lowered.as_many ∙ ap (λ x. length (row_of rows x)) (sym same)
    | inr other ↦ ap length (row-set_other rows k j row other)
  ];
  no_later = λ j i. elim (cases_eq j k) [
    | inl same ↦ (let is = at j i same in let was = before j i same in omega (arith, lowered.no_later i))
    | inr other ↦ (let is = elsewhere j i other in omega arith)
  ];
  by = λ j i. elim (cases_eq j k) [
    | inl same ↦ elim (lowered.by i) [
      | inl stays ↦ inl (at j i same ∙ stays ∙ sym (before j i same))
      | inr p ↦ inr (subst (λ x. P x i (cell (set rows k row) j i)) (sym same) (subst (P k i) (sym (at j i same)) p))
    ]
    | inr other ↦ inl (elsewhere j i other)
  ];
} where
  here : (j : ℕ) → j ≡ k → row_of (set rows k row) j ≡ row.items
  here j same = ap (row_of (set rows k row)) same ∙ row-set_same rows k row lt

  at : (j i : ℕ) → j ≡ k → cell (set rows k row) j i ≡ time_at row.items i
  at j i same = ap (λ xs. time_at xs i) (here j same)

  before : (j i : ℕ) → j ≡ k → cell rows j i ≡ time_at (row_of rows k) i
  before j i same = ap (λ x. cell rows x i) same

  elsewhere : (j i : ℕ) → j ≢ k → cell (set rows k row) j i ≡ cell rows j i
  elsewhere j i other = ap (λ xs. time_at xs i) (row-set_other rows k j row other)

-- the shape stays
pub shape_stays : (P : ℕ → ℕ → ℕ → Type 0) (count width : ℕ) (old new : List (Vec ℕ Global)) → AreLowered P old new → HaveShape count width old → HaveShape count width new
shape_stays P count width old new lowered shape = record {
  count_is = lowered.count_is ∙ shape.count_is;
  width_is = λ k lt. lowered.width_is k ∙ shape.width_is k lt;
}

-- one row more of the same width
pub shape_more : (count width : ℕ) (rows : List (Vec ℕ Global)) (row : Vec ℕ Global) → HaveShape count width rows → length row.items ≡ width → HaveShape (count + 1) width (rows ++ row ∷ [])
shape_more count width rows row shape is = record {
  count_is = omega (arith, length_push rows row, shape.count_is);
  width_is = below_more (λ k. length (row_of (rows ++ row ∷ []) k) ≡ width) count
      (λ k lt. ap length (row-push_before rows row k (omega (arith, lt, shape.count_is))) ∙ shape.width_is k lt)
      (ap length (row-push rows row count (sym shape.count_is)) ∙ is);
}
