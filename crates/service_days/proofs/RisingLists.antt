-- Places in lists of numbers that rise.
use Rattle.plan_base.proofs.Common.{◌≡◌, refl, sym, ap, ℕ, zero, suc, ◌+◌, ◌-◌, ◌<◌, ◌≤◌, ◌≢◌, true, false, not, cond, ltb, leb, ◌==◌, List, length, get_or, Some, None, arith, position, prefix_len, IsPartitionPoint, ltb-true, ltb-false, lt-ltb, le-ltb, le-leb, lt-leb, leb-true, leb-false}
use Rattle.std.proofs.lemmas.List.Sums.{prefix_len_is}
use Rattle.service_days.specs.{last_not_later, Rise}

-- what rises from each number to the next rises
pub rise_by_steps : (f : ℕ → ℕ) (n : ℕ) → ((k : ℕ) → k + 1 < n → f k < f (k + 1)) → (j k : ℕ) → j < k → k < n → f j < f k
rise_by_steps f n step j zero before within = omega (arith, before)
rise_by_steps f n step j (suc k) before within =
    let one : k + 1 ≡ suc k = omega arith in
    let last : f k < f (suc k) = rw (sym (ap f one)) (step k (omega (arith, within))) in
    elim (ltb j k) as (λ v. ltb j k ≡ v → f j < f (suc k)) [
      | true ↦ λ t. omega (arith, last, rise_by_steps f n step j k (ltb-true j k t) (omega (arith, within)))
      | false ↦ λ e. let same : j ≡ k = omega (arith, before, ltb-false j k e) in rw same last
    ] refl

pub non_decreasing : (xs : List ℕ) → Rise xs → (i j : ℕ) → i ≤ j → j < length xs → get_or xs i 0 ≤ get_or xs j 0
non_decreasing xs rise i j up within =
    elim (ltb i j) as (λ v. ltb i j ≡ v → get_or xs i 0 ≤ get_or xs j 0) [
      | true ↦ λ t. omega (arith, rise i j (ltb-true i j t) within)
      | false ↦ λ e. let same : i ≡ j = omega (arith, up, ltb-false i j e) in rw same (omega arith)
    ] refl

-- a number that stands at one place is first found there
pub found_at : (xs : List ℕ) (x k : ℕ) → Rise xs → k < length xs → get_or xs k 0 ≡ x → position (λ other. other == x) xs ≡ Some k
found_at xs x k rise within at =
    let e : prefix_len (λ other. not (other == x)) xs ≡ k =
    prefix_len_is (λ other. not (other == x)) xs k 0 (omega (arith, within)) (λ j h. grind (arith, rise j k h within, at)) (λ h. grind (arith, at)) in
    rw (e, lt-ltb k (length xs) within) refl

nothing_below_itself : (n : ℕ) → n < n → ⊥
nothing_below_itself n h = omega (arith, h)

-- and one that stands nowhere is not
pub not_found : (xs : List ℕ) (x : ℕ) → ((k : ℕ) → k < length xs → get_or xs k 0 ≢ x) → position (λ other. other == x) xs ≡ None
not_found xs x nowhere =
    let e : prefix_len (λ other. not (other == x)) xs ≡ length xs =
    prefix_len_is (λ other. not (other == x)) xs (length xs) 0 (omega arith) (λ j h. grind (arith, nowhere j h)) (λ h. absurd (nothing_below_itself (length xs) h)) in
    rw (e, le-ltb (length xs) (length xs) (omega arith)) refl

-- the last place up to k whose number is not later than t
pub last_is : (bases : List ℕ) (t k m : ℕ) → m ≤ k → get_or bases m 0 ≤ t → ((j : ℕ) → m < j → j ≤ k → t < get_or bases j 0) → last_not_later bases t k ≡ m
unfolding last_not_later
last_is bases t zero m up low high = omega (arith, up)
last_is bases t (suc k) m up low high =
    elim (ltb m (suc k)) as (λ v. ltb m (suc k) ≡ v → cond (leb (get_or bases (suc k) 0) t) (suc k) (last_not_later bases t k) ≡ m) [
      | true ↦ λ e. let before = ltb-true m (suc k) e in
          rw (lt-leb (get_or bases (suc k) 0) t (high (suc k) before (omega arith))) (last_is bases t k m (omega (arith, before)) low (λ j h w. high j h (omega (arith, w))))
      | false ↦ λ e. let same : m ≡ suc k = omega (arith, up, ltb-false m (suc k) e) in
          rw (le-leb (get_or bases (suc k) 0) t (rw (sym (ap (λ i. get_or bases i 0) same)) low)) (sym same)
    ] refl

-- the place after the last one whose number is not later than t
pub record IsAfterLast (bases : List ℕ) (t after : ℕ) : Type 0 where
  pub some : 1 ≤ after
  pub day : after - 1 ≡ last_not_later bases t (length bases - 1)
  pub begun : get_or bases (after - 1) 0 ≤ t
  pub within : after - 1 < length bases

pub is_after_last : (bases : List ℕ) (t after : ℕ) → 0 < length bases → get_or bases 0 0 ≡ 0 → after ≤ length bases → IsPartitionPoint (λ base. leb base t ≡ true) (λ base. leb base t ≡ false) bases after → IsAfterLast bases t after
is_after_last bases t after long start bound point =
    let some : 1 ≤ after = after_some bases t after long start point.1 in
    let begun : get_or bases (after - 1) 0 ≤ t = leb-true (get_or bases (after - 1) 0) t (point.0 (after - 1) 0 (omega arith) (omega (arith, some))) in
    record {
      some = some;
      day = sym (last_is bases t (length bases - 1) (after - 1) (omega (arith, bound)) begun
          (λ j h w. leb-false (get_or bases j 0) t (point.1 j 0 (omega (arith, h)) (omega (arith, w, long)))));
      begun = begun;
      within = omega (arith, some, bound);
    }
  where
    after_some : (bases : List ℕ) (t after : ℕ) → 0 < length bases → get_or bases 0 0 ≡ 0 → ((k : ℕ) (d : ℕ) → after ≤ k → k < length bases → leb (get_or bases k d) t ≡ false) → 1 ≤ after
    after_some bases t zero long start later = let late = leb-false (get_or bases 0 0) t (later 0 0 (omega arith) long) in omega (arith, late, start)
    after_some bases t (suc n) long start later = omega arith
