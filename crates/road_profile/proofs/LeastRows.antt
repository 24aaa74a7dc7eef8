-- The first of each run of parallel rows, where the rows are in order.
use Rattle.plan_base.proofs.Common.{◌≡◌, ℕ, suc, ◌+◌, ◌<◌, ◌≤◌, List, [], ◌∷◌, length, get_or, Bool, true, false, ◌⊎◌, inl, inr, ⊎_elim, refl, sym, ap, ◌∙◌, subst, arith, All, AllPairs, Contains, dedup, IsPermutation, IsSorted, is_lt, Less, Equal, cases_lt, All-nil, All-cons, All-contains, All-weaker, All-from_recursion, get_or_default, All-permutation, Contains-permutation, IsPermutation-sym, AllPairs-cons, Contains-from_dedup, IsStrictlySortedBy-dedup}
use Rattle.std.specs.List.Sorted.{IsStrictlySortedBy}
use Rattle.std.specs.List.{dedup_from}
use Rattle.road_profile.specs.{RoadRow, AreArcsOf, AreParallel, IsArcOf, row_cmp}
use Rattle.road_profile.proofs.RowOrder.{full_cmp, parallel_from_same, parallel_least, parallel_ties, row_cmp_total, row_earlier, same_key, same_key_ties}

-- each row is in order with the next
abbrev Rises : RoadRow → List RoadRow → Type 0
Rises x [] = Unit {0}
Rises x (y ∷ ys) = (is_lt (full_cmp y x) ≡ false) × Rises y ys

rises_from_sorted : (x : RoadRow) (ys : List RoadRow) → IsSorted full_cmp (x ∷ ys) → Rises x ys
rises_from_sorted x [] h = tt
rises_from_sorted x (y ∷ ys) h = (
  h 0 x (omega arith) (omega arith),
  rises_from_sorted y ys (λ k d low below.
      let next : suc k + 1 ≡ suc (k + 1) = omega arith in
      rw next at (h (suc k) d (omega arith) (omega arith))),
)

-- a row that is parallel to this one and takes no more time
pub record Covers (w z : RoadRow) : Type 0 where
  pub parallel : AreParallel z w
  pub least : z.ms ≤ w.ms

abbrev pub HasCover : RoadRow → List RoadRow → Type 0
HasCover w [] = ⊥
HasCover w (z ∷ zs) = Covers w z ⊎ HasCover w zs

covers_next : (x w z : RoadRow) → Covers x z → AreParallel x w → x.ms ≤ w.ms → Covers w z
covers_next x w z c p le = record {
  parallel = record { from = c.parallel.from ∙ p.from; to = c.parallel.to ∙ p.to; mode = c.parallel.mode ∙ p.mode };
  least = omega (arith, c.least, le);
}

has_cover_next : (x w : RoadRow) (zs : List RoadRow) → HasCover x zs → AreParallel x w → x.ms ≤ w.ms → HasCover w zs
has_cover_next x w [] h p le = h
has_cover_next x w (z ∷ zs) h p le = ⊎_elim (λ c. inl (covers_next x w z c p le)) (λ c. inr (has_cover_next x w zs c p le)) h

itself : (x : RoadRow) → Covers x x
itself x = record { parallel = record { from = refl; to = refl; mode = refl }; least = omega arith }

-- The run's first row is kept, and covers the rows of the run.
record AreCovered (kept : RoadRow) (ys : List RoadRow) : Type 0 where
  first : HasCover kept (dedup_from same_key kept ys)
  behind : All (λ w. HasCover w (dedup_from same_key kept ys)) ys

covered : (kept last : RoadRow) (ys : List RoadRow) → AreParallel kept last → kept.ms ≤ last.ms → Rises last ys → AreCovered kept ys
covered kept last [] p le rises = record { first = inl (itself kept); behind = All-nil (λ w. HasCover w (kept ∷ [])) }
covered kept last (y ∷ ys) p le rises =
    by_test (same_key y kept) refl (λ q more. covered kept y ys q more rises.1) (covered y y ys (itself y).parallel (omega arith) rises.1)
  where
    flip_parallel : AreParallel kept y → AreParallel last y
    flip_parallel q = record { from = sym p.from ∙ q.from; to = sym p.to ∙ q.to; mode = sym p.mode ∙ q.mode }

    flip_back : AreParallel y kept → AreParallel kept y
    flip_back q = record { from = sym q.from; to = sym q.to; mode = sym q.mode }

    by_test : (b : Bool) → same_key y kept ≡ b → (AreParallel kept y → kept.ms ≤ y.ms → AreCovered kept ys) → AreCovered y ys → AreCovered kept (y ∷ ys)
    by_test true same on off =
        let q = flip_back (parallel_from_same y kept same) in
        let more : kept.ms ≤ y.ms = omega (arith, le, parallel_least last y rises.0 (flip_parallel q)) in
        let next = on q more in
        let kept_is : dedup_from same_key kept (y ∷ ys) ≡ dedup_from same_key kept ys = rw same refl in
        record {
          first = rw kept_is next.first;
          behind = rw kept_is (All-cons (λ w. HasCover w (dedup_from same_key kept ys)) y ys (has_cover_next kept y _ next.first q more) next.behind);
        }
    by_test false apart on off =
        let kept_is : dedup_from same_key kept (y ∷ ys) ≡ kept ∷ dedup_from same_key y ys = rw apart refl in
        record {
          first = rw kept_is (inl (itself kept));
          behind = rw kept_is (All-cons (λ w. HasCover w (kept ∷ dedup_from same_key y ys)) y ys (inr off.first) (All-weaker (λ w. HasCover w (dedup_from same_key y ys)) (λ w. HasCover w (kept ∷ dedup_from same_key y ys)) (λ w c. inr c) ys off.behind));
        }

pub contained_cover : (w : RoadRow) (zs : List RoadRow) → HasCover w zs → (z : RoadRow) × Contains zs z × Covers w z
contained_cover w [] h = absurd h
contained_cover w (z ∷ zs) h = ⊎_elim (λ c. (z, (0, omega arith, refl), c)) (λ c. let found = contained_cover w zs c in (found.0, (suc found.1.0, omega (arith, found.1.1), found.1.2), found.2)) h

-- each row has one that covers it
all_covered : (xs : List RoadRow) → IsSorted full_cmp xs → All (λ w. HasCover w (dedup same_key xs)) xs
all_covered [] h = All-nil (λ w. HasCover w [])
all_covered (x ∷ xs) h =
    let c = covered x x xs (itself x).parallel (omega arith) (rises_from_sorted x xs h) in
    All-cons (λ w. HasCover w (dedup_from same_key x xs)) x xs c.first c.behind

ascend : (xs : List RoadRow) → IsStrictlySortedBy row_cmp xs → AllPairs (λ a b. row_cmp a b ≡ Less) xs
unfolding IsStrictlySortedBy
ascend [] h = λ i j d less below. absurd (omega arith)
ascend (x ∷ xs) h =
    AllPairs-cons (λ a b. row_cmp a b ≡ Less) x xs (All-from_recursion (λ y. row_cmp x y ≡ Less) xs h.0) (ascend xs h.1)

-- of ascending rows no two are parallel
before : (rows : List RoadRow) (a b : RoadRow) (i j : ℕ) → AllPairs (λ a b. row_cmp a b ≡ Less) rows → i < j → j < length rows → get_or rows i a ≡ a → get_or rows j b ≡ b → row_cmp a b ≡ Less
before rows a b i j up less below is_a is_b =
    let first : get_or rows i b ≡ a = get_or_default rows i b a (omega arith) ∙ is_a in
    rw (first, is_b) at (up i j b less below)

apart : (rows : List RoadRow) (a b : RoadRow) → AllPairs (λ a b. row_cmp a b ≡ Less) rows → Contains rows a → Contains rows b → AreParallel a b → a ≡ b
apart rows a b up (i, below_i, is_a) (j, below_j, is_b) p =
    ⊎_elim
    (λ less. let h = before rows a b i j up less below_j is_a is_b in absurd (less-equal (sym h ∙ parallel_ties a b p)))
    (λ no.
    ⊎_elim
    (λ less. let h = before rows b a j i up less below_i is_b is_a in absurd (less-equal (sym h ∙ parallel_ties b a (back p))))
    (λ same. let here : i ≡ j = omega arith in sym is_a ∙ ap (λ k. get_or rows k a) here ∙ get_or_default rows j a b below_j ∙ is_b)
    (cases_lt j i))
    (cases_lt i j)
  where
    back : AreParallel a b → AreParallel b a
    back q = record { from = sym q.from; to = sym q.to; mode = sym q.mode }

    less-equal : Less ≡ Equal → ⊥
    less-equal e = cc

row_same : (a b : RoadRow) → AreParallel a b → a.ms ≡ b.ms → a ≡ b
row_same a b p ms = λ i. record { from = p.from i; to = p.to i; mode = p.mode i; ms = ms i }

module _ (legs sorted : List RoadRow) (same : IsPermutation legs sorted) (order : IsSorted full_cmp sorted) where
  ascending : AllPairs (λ a b. row_cmp a b ≡ Less) (dedup same_key sorted)
  ascending = ascend _ (IsStrictlySortedBy-dedup row_cmp_total same_key_ties sorted (λ k d low below. row_earlier (get_or sorted k d) (get_or sorted (k + 1) d) (order k d low below)))

  leg_of_row : (row : RoadRow) → Contains (dedup same_key sorted) row → Contains legs row
  leg_of_row row c = Contains-permutation sorted legs row (IsPermutation-sym legs sorted same) (Contains-from_dedup same_key sorted row c)

  no_longer : (row : RoadRow) → Contains (dedup same_key sorted) row → (w : RoadRow) → HasCover w (dedup same_key sorted) → AreParallel w row → row.ms ≤ w.ms
  no_longer row c w cover p =
      let found = contained_cover w _ cover in
      let z = found.0 in
      let q = found.2.parallel in
      let is : z ≡ row = apart (dedup same_key sorted) z row ascending found.1 c (record { from = q.from ∙ p.from; to = q.to ∙ p.to; mode = q.mode ∙ p.mode }) in
      omega (arith, found.2.least, ap (λ (r : RoadRow). r.ms) is)

  arc_of_row : (row : RoadRow) → Contains (dedup same_key sorted) row → IsArcOf legs row
  arc_of_row row c = record {
    leg = leg_of_row row c;
    least = All-permutation (λ leg. AreParallel leg row → row.ms ≤ leg.ms) sorted legs (IsPermutation-sym legs sorted same) (All-weaker (λ w. HasCover w (dedup same_key sorted)) (λ leg. AreParallel leg row → row.ms ≤ leg.ms) (no_longer row c) sorted (all_covered sorted order));
  }

  row_of_arc : (row : RoadRow) → IsArcOf legs row → Contains (dedup same_key sorted) row
  row_of_arc row arc =
      let there = Contains-permutation legs sorted row same arc.leg in
      let found = contained_cover row _ (All-contains (λ w. HasCover w (dedup same_key sorted)) sorted row (all_covered sorted order) there) in
      let least = All-contains (λ leg. AreParallel leg row → row.ms ≤ leg.ms) legs found.0 arc.least (leg_of_row found.0 found.1) found.2.parallel in
      let is : found.0 ≡ row = row_same found.0 row found.2.parallel (omega (arith, least, found.2.least)) in
      subst (Contains (dedup same_key sorted)) is found.1

  -- The first rows of the runs are the arcs.
  pub least_are_arcs : AreArcsOf legs (dedup same_key sorted)
  least_are_arcs = record { ascending = ascending; arcs = λ row. (arc_of_row row, row_of_arc row) }
