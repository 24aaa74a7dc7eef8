-- Legs in rows, and one more row behind them.
use Rattle.plan_base.proofs.Common.{◌≡◌, ℕ, zero, suc, ◌+◌, ◌-◌, ◌<◌, ◌≤◌, ◌∙◌, refl, sym, ap, ap₂, subst, arith, inl, inr, List, [], ◌∷◌, ◌++◌, length, length-append, length-drop, take, slice_range, slice_index, get_or_push, get_or_append_left, drop-append-le, drop_at, take_all, cases_eq}
use Rattle.std.proofs.lemmas.List.{take-append-le}
use Rattle.search_laws.specs.{Leg}
use Rattle.sweeps.specs.{inside.Bounds.AreBounded, Rows.Rows, Rows.row_at}
use Rattle.sweeps.specs.inside.{IsOneMoreRow, AreRowsOf}

-- each row begins and ends among the legs
module _ (bounds : List ℕ) (count : ℕ) (are : AreBounded bounds count) where
  up_to_last : (rest i : ℕ) → i + rest + 1 ≡ length bounds → slice_index bounds i ≤ count
  up_to_last zero i at = let last : i ≡ length bounds - 1 = omega arith in omega (arith, ap (slice_index bounds) last, are.last)
  up_to_last (suc rest) i at = omega (arith, up_to_last rest (i + 1) (omega arith), are.rise i (omega arith))

  pub within : (i : ℕ) → i < length bounds → slice_index bounds i ≤ count
  within i lt = up_to_last (length bounds - (i + 1)) i (omega arith)

-- one more row
module _ (bounds : List ℕ) (legs row : List Leg) (end : ℕ) (are : AreBounded bounds (length legs)) (is : end ≡ length (legs ++ row)) where
  long : length (bounds ++ end ∷ []) ≡ length bounds + 1
  long = length-append bounds (end ∷ [])

  early : (i : ℕ) → i < length bounds → slice_index (bounds ++ end ∷ []) i ≡ slice_index bounds i
  early i lt = get_or_append_left bounds (end ∷ []) 0 i lt

  late : (i : ℕ) → i ≡ length bounds → slice_index (bounds ++ end ∷ []) i ≡ end
  late i at = get_or_push bounds end 0 i (sym at)

  pub bounded_more : AreBounded (bounds ++ end ∷ []) (length (legs ++ row))
  bounded_more = record {
    some = omega (arith, long);
    rise = λ i lt. elim (cases_eq (i + 1) (length bounds)) [
      | inl same ↦ omega (arith, early i (omega arith), late (i + 1) same, within bounds (length legs) are i (omega arith), is, length-append legs row)
      | inr other ↦ omega (arith, long, early i (omega (arith, long)), early (i + 1) (omega (arith, long)), are.rise i (omega (arith, long)))
    ];
    last = late (length (bounds ++ end ∷ []) - 1) (omega (arith, long)) ∙ is;
  }

  pub row_stays : (i : ℕ) → i < length bounds - 1
      → slice_range (legs ++ row) (slice_index (bounds ++ end ∷ []) i) (slice_index (bounds ++ end ∷ []) (i + 1)) ≡ slice_range legs (slice_index bounds i) (slice_index bounds (i + 1))
  row_stays i lt =
      let a = slice_index bounds i in
      let b = slice_index bounds (i + 1) in
      let most = within bounds (length legs) are (i + 1) (omega arith) in
      let rise = are.rise i (omega arith) in
      ap₂ (slice_range (legs ++ row)) (early i (omega arith)) (early (i + 1) (omega arith))
      ∙ ap (take (b - a)) (drop-append-le a legs row (omega arith)) ∙ take-append-le (b - a) _ row (omega (arith, length-drop a legs))

  pub row_comes : slice_range (legs ++ row) (slice_index (bounds ++ end ∷ []) (length bounds - 1)) (slice_index (bounds ++ end ∷ []) (length bounds - 1 + 1)) ≡ row
  row_comes =
      let some = are.some in
      ap₂ (slice_range (legs ++ row)) (early (length bounds - 1) (omega arith) ∙ are.last) (late (length bounds - 1 + 1) (omega arith) ∙ is)
      ∙ ap (take (length (legs ++ row) - length legs)) (drop_at legs row (length legs) refl) ∙ take_all _ row (omega (arith, length-append legs row))

-- rows of which P holds, and one more
pub rows_more : (P : ℕ → List Leg → Type 0) (count : ℕ) (before after : Rows) (row : List Leg) → AreRowsOf P count before → IsOneMoreRow before row after → P count row → AreRowsOf P (count + 1) after
rows_more P count before after row are more holds = record {
  as_many = omega (arith, more.count, are.as_many);
  each = λ i lt. elim (cases_eq i count) [
    | inl same ↦ (let last : row_at after i ≡ row = ap (row_at after) (same ∙ sym are.as_many) ∙ more.last in
        subst (P i) (sym last) (subst (λ j. P j row) (sym same) holds))
    | inr other ↦ subst (P i) (sym (more.kept i (omega (arith, are.as_many)))) (are.each i (omega arith))
  ];
}
