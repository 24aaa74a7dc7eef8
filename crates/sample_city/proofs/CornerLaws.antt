-- What each corner gives rises, where it is tagged by the id of the corner.
use Rattle.plan_base.proofs.Common.{◌≡◌, ℕ, zero, suc, ◌+◌, ◌*◌, ◌<◌, ◌≤◌, List, map, subst, arith, le_refl, flat_map, range_with_len, flat_map-append}
use Rattle.std.proofs.Common.{add-mul, one-mul}
use Rattle.sample_city.specs.{corner, corners, lines, Corner}
use Rattle.sample_city.proofs.RiseLaws.{Rise, rise_append}

module _ {X : Type 0} (Tagged : ℕ → X → Type 0) (mark : ℕ → ℕ) (n : ℕ) (f : Corner → List X)
    (each : (row column id : ℕ) → row < n → column < n → id ≡ 1 + row * n + column → Rise Tagged (mark id) (mark (id + 1)) (f (corner n row column))) where
  -- along a row
  row_rises : (row column k low high : ℕ) → row < n → column + k ≤ n → low ≡ 1 + row * n + column → high ≡ low + k
      → Rise Tagged (mark low) (mark high) (flat_map f (map (corner n row) (range_with_len column k)))
  row_rises row column zero low high there fits from to =
      let same : low ≡ high = omega (arith, to) in
      subst (λ end. mark low ≤ mark end) same (le_refl (mark low))
  row_rises row column (suc k) low high there fits from to =
      rise_append Tagged (mark low) (mark (low + 1)) (mark high) (f (corner n row column)) (flat_map f (map (corner n row) (range_with_len (column + 1) k)))
      (each row column low there (omega (arith, fits)) from)
      (row_rises row (column + 1) k (low + 1) high there (omega (arith, fits)) (omega (arith, from)) (omega (arith, to)))

  -- row by row
  rows_rise : (row k low high : ℕ) → row + k ≤ n → low ≡ 1 + row * n → high ≡ low + k * n
      → Rise Tagged (mark low) (mark high) (flat_map f (flat_map (λ row. map (corner n row) (lines n)) (range_with_len row k)))
  rows_rise row zero low high fits from to =
      let same : low ≡ high = omega (arith, to) in
      subst (λ end. mark low ≤ mark end) same (le_refl (mark low))
  rows_rise row (suc k) low high fits from to =
      rw (flat_map-append f (map (corner n row) (lines n)) (flat_map (λ row. map (corner n row) (lines n)) (range_with_len (row + 1) k)))
      (rise_append Tagged (mark low) (mark (low + n)) (mark high) (flat_map f (map (corner n row) (lines n))) (flat_map f (flat_map (λ row. map (corner n row) (lines n)) (range_with_len (row + 1) k)))
      (row_rises row 0 n low (low + n) (omega (arith, fits)) (omega arith) (omega (arith, from)) (omega arith))
      (rows_rise (row + 1) k (low + n) high (omega (arith, fits)) (omega (arith, from, add-mul row 1 n, one-mul n)) (omega (arith, to, add-mul k 1 n, one-mul n))))

  pub corners_rise : Rise Tagged (mark 1) (mark (1 + n * n)) (flat_map f (corners n))
  corners_rise = rows_rise 0 n 1 (1 + n * n) (omega arith) (omega arith) (omega arith)
