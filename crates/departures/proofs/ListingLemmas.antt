-- The searches one after the other list the departures of a window.
use Rattle.plan_base.proofs.Common.{◌≡◌, ℕ, ◌+◌, ◌-◌, ◌<◌, ◌≤◌, ◌⊎◌, ◌&&◌, ◌++◌, Bool, true, false, cond, List, [], ◌∷◌, map, Option, Some, None, inl, inr, refl, sym, ap, subst, arith, All, Contains, ltb-true, ltb-false, map-append, All-nil, All-push, Contains-append_left, Contains-append_right, all_pairs_push}
use Rattle.mode_network.specs.NetworkLists.{NetworkLists}
use Rattle.mode_network.proofs.RuleLemmas.{both}
use Rattle.journey.specs.{Asked}
use Rattle.departures.specs.{Pair, Row, IsPair, IsShorter, IsListed, AreDepartures, IsRow, pair_of, AreRows, inside.IsPrintableRow, inside.IsFirstRow, inside.IsFirstRowFrom, inside.next_moment, inside.is_shorter, inside.is_later_row, inside.with_departure}
use Rattle.latest_departure.proofs.OrderLemmas.{le_or_above}
use Rattle.departures.proofs.{OrderLemmas.same_pair, OrderLemmas.not_before, ListLemmas.here}

-- The rows so far are those of a window that closes when the search goes on, and what was found last departs then or later.
pub record IsListing (n : NetworkLists) (q : Asked) (without : Option ℕ) (window : ℕ) (rows : List Row) (best : Option Row) : Type 0 where
  pub span : ℕ
  pub within : span ≤ window
  pub are : AreRows n q without span rows
  pub printable : All (IsPrintableRow n) rows
  pub found : IsFirstRowFrom n q (q.depart + span) best

-- how much of the window is left
abbrev pub left_of : ℕ → Option Row → ℕ
left_of closes None = 0
left_of closes (Some row) = closes - row.pair.depart

after_departure : (c : Option ℕ) (p : Pair) → p.depart < next_moment c p
after_departure None p = omega arith
after_departure (Some c) p = omega arith

at_departure : (c : Option ℕ) (p : Pair) → p.depart ≤ p.arrive → is_shorter c p ≡ true → next_moment c p ≡ p.depart + 1
at_departure None p rises shorter = refl
at_departure (Some c) p rises shorter = let less = ltb-true (p.arrive - p.depart) c shorter in omega arith

takes_less : (c : Option ℕ) (p : Pair) → p.depart ≤ p.arrive → is_shorter c p ≡ true → IsShorter c p
takes_less None p rises shorter = tt
takes_less (Some c) p rises shorter = let less = ltb-true (p.arrive - p.depart) c shorter in omega arith

takes_no_less : (c : Option ℕ) (p : Pair) → p.depart ≤ p.arrive → is_shorter c p ≡ false → IsShorter c p → ⊥
takes_no_less None p rises longer shorter = absurd cc
takes_no_less (Some c) p rises longer shorter = let le = ltb-false (p.arrive - p.depart) c longer in absurd (omega arith)

module _ (n : NetworkLists) (q : Asked) (without : Option ℕ) where
  -- ---- rows of a longer window

  -- nothing more is listed in it
  widened : (span wide : ℕ) (rows : List Row) → AreRows n q without span rows → span ≤ wide
      → ((p : Pair) → IsListed n q without wide p → q.depart + span ≤ p.depart → ⊥) → AreRows n q without wide rows
  widened span wide rows are le none = record {
    departures = record {
      rising = are.departures.rising;
      listed = λ i d lt. (
          let is = are.departures.listed i d lt in
          record { undominated = is.undominated; within = (let early = is.within in omega arith); shorter = is.shorter });
      whole = λ p is. whole p is (le_or_above (q.depart + span) p.depart);
    };
    right = are.right;
  }
    where
      whole : (p : Pair) → IsListed n q without wide p → (q.depart + span ≤ p.depart) ⊎ (p.depart < q.depart + span) → Contains (map pair_of rows) p
      whole p is (inl late) = absurd (none p is late)
      whole p is (inr early) = are.departures.whole p (record { undominated = is.undominated; within = early; shorter = is.shorter })

  -- one more is, and nothing else
  one_more : (span wide : ℕ) (rows : List Row) (row : Row) → AreRows n q without span rows → span ≤ wide → q.depart + span ≤ row.pair.depart → IsListed n q without wide row.pair → IsRow n q row
      → ((p : Pair) → IsListed n q without wide p → q.depart + span ≤ p.depart → row.pair ≡ p) → AreRows n q without wide (rows ++ row ∷ [])
  one_more span wide rows row are le late own is_row only = record {
    departures = subst (AreDepartures n q without wide) (sym (map-append pair_of rows (row ∷ []))) (record {
      rising = all_pairs_push (λ (first second : Pair). first.depart < second.depart) (map pair_of rows) row.pair are.departures.rising
          (λ i d lt. (let early = (are.departures.listed i d lt).within in omega arith));
      listed = All-push (IsListed n q without wide) (map pair_of rows) row.pair (λ i d lt. (
          let is = are.departures.listed i d lt in
          record { undominated = is.undominated; within = (let early = is.within in omega arith); shorter = is.shorter })) own;
      whole = λ p is. whole p is (le_or_above (q.depart + span) p.depart);
    });
    right = All-push (IsRow n q) rows row are.right is_row;
  }
    where
      whole : (p : Pair) → IsListed n q without wide p → (q.depart + span ≤ p.depart) ⊎ (p.depart < q.depart + span) → Contains (map pair_of rows ++ row.pair ∷ []) p
      whole p is (inl late) = subst (Contains (map pair_of rows ++ row.pair ∷ [])) (only p is late) (Contains-append_right (map pair_of rows) (row.pair ∷ []) row.pair (here row.pair []))
      whole p is (inr early) =
          Contains-append_left (map pair_of rows) (row.pair ∷ []) p (are.departures.whole p (record { undominated = is.undominated; within = early; shorter = is.shorter }))

  -- ---- what a search found

  module _ (t : ℕ) (row : Row) (first : IsFirstRow n q t row) where
    own : IsPair n q row.pair
    own = (row.journey, first.is_row.ridden)

    -- a listed pair that departs before the search goes on is this one
    only : (window : ℕ) (p : Pair) → IsListed n q without window p → t ≤ p.depart → p.depart < next_moment without row.pair → row.pair ≡ p
    only window p is late early = on_order (le_or_above p.depart row.pair.depart)
      where
        as_early : row.pair.arrive ≤ p.arrive
        as_early = first.least p is.undominated.pair late

        too_long : (c : Option ℕ) → IsShorter c p → p.depart < next_moment c row.pair → row.pair.depart < p.depart → ⊥
        too_long None shorter before later = absurd (omega arith)
        too_long (Some c) shorter before later = let le = as_early in absurd (omega arith)

        on_order : (p.depart ≤ row.pair.depart) ⊎ (row.pair.depart < p.depart) → row.pair ≡ p
        on_order (inl no_later) = is.undominated.alone row.pair own no_later as_early
        on_order (inr later) = absurd (too_long without is.shorter early later)

    module _ (next : Option Row) (found : IsFirstRowFrom n q (next_moment without row.pair) next) where
      later_than : (o : Option Row) → IsFirstRowFrom n q (next_moment without row.pair) o → is_later_row o row.pair.arrive ≡ true → (p : Pair) → IsPair n q p → next_moment without row.pair ≤ p.depart
          → row.pair.arrive < p.arrive
      later_than None none later p is late = absurd (none p is late)
      later_than (Some o) some later p is late = let less = ltb-true row.pair.arrive o.pair.arrive later in let le = some.least p is late in omega arith

      -- it is listed where it takes less time than without a ride, and the next one arrives later
      worth : (window : ℕ) → row.pair.depart < q.depart + window → is_shorter without row.pair ≡ true → is_later_row next row.pair.arrive ≡ true → IsListed n q without window row.pair
      worth window within shorter later = record {
        undominated = record { pair = own; alone = λ o is as_late as_early. alone o is as_late as_early (le_or_above (next_moment without row.pair) o.depart) };
        within = within;
        shorter = takes_less without row.pair first.rises shorter;
      }
        where
          alone : (o : Pair) → IsPair n q o → row.pair.depart ≤ o.depart → o.arrive ≤ row.pair.arrive
              → (next_moment without row.pair ≤ o.depart) ⊎ (o.depart < next_moment without row.pair) → o ≡ row.pair
          alone o is as_late as_early (inl after) = let less = later_than next found later o is after in absurd (omega arith)
          alone o is as_late as_early (inr before) =
              let next_is = at_departure without row.pair first.rises shorter in
              let late = first.late in
              let le = first.least o is (omega arith) in
              same_pair o row.pair (omega arith) (omega arith)

      -- and nowhere else
      not_worth : (window : ℕ) → IsListed n q without window row.pair → (is_shorter without row.pair && is_later_row next row.pair.arrive) ≡ false → ⊥
      not_worth window is test = on_tests (is_shorter without row.pair) refl test
        where
          passed : (o : Option Row) → IsFirstRowFrom n q (next_moment without row.pair) o → is_later_row o row.pair.arrive ≡ false → ⊥
          passed None none early = absurd cc
          passed (Some o) some early =
              let le = ltb-false row.pair.arrive o.pair.arrive early in
              let after = after_departure without row.pair in
              let late = some.late in
              let same = ap (λ (p : Pair). p.depart) (is.undominated.alone o.pair (o.journey, some.is_row.ridden) (omega arith) le) in
              absurd (omega arith)

          on_tests : (b : Bool) → is_shorter without row.pair ≡ b → (b && is_later_row next row.pair.arrive) ≡ false → ⊥
          on_tests true shorter early = passed next found early
          on_tests false longer early = takes_no_less without row.pair first.rises longer is.shorter

  -- ---- the list

  pub starts : (window : ℕ) (best : Option Row) → IsFirstRowFrom n q q.depart best → IsListing n q without window [] best
  starts window best found = record {
    span = 0;
    within = omega arith;
    are = record {
      departures = record {
        rising = λ i j d less within. absurd (omega arith);
        listed = All-nil (IsListed n q without 0);
        whole = λ p is. (let late = not_before n q p is.undominated.pair in let early = is.within in absurd (omega arith));
      };
      right = All-nil (IsRow n q);
    };
    printable = All-nil (IsPrintableRow n);
    found = (let same : q.depart ≡ q.depart + 0 = omega arith in subst (λ t. IsFirstRowFrom n q t best) same found);
  }

  pub ends : (window : ℕ) (rows : List Row) → IsListing n q without window rows None → AreRows n q without window rows
  ends window rows so_far = widened so_far.span window rows so_far.are so_far.within (λ p is late. so_far.found p is.undominated.pair late)

  pub closes : (window : ℕ) (rows : List Row) (row : Row) → IsListing n q without window rows (Some row) → q.depart + window < next_moment without row.pair → AreRows n q without window rows
  closes window rows row so_far past = widened so_far.span window rows so_far.are so_far.within none
    where
      first : IsFirstRow n q (q.depart + so_far.span) row
      first = so_far.found

      none : (p : Pair) → IsListed n q without window p → q.depart + so_far.span ≤ p.depart → ⊥
      none p is late =
          let early = is.within in
          let same = only (q.depart + so_far.span) row first window p is late (omega arith) in
          not_past without (subst (IsShorter without) (sym same) is.shorter) past (let at = ap (λ (o : Pair). o.depart) same in omega arith)
        where
          not_past : (c : Option ℕ) → IsShorter c row.pair → q.depart + window < next_moment c row.pair → row.pair.depart < q.depart + window → ⊥
          not_past None shorter after within = absurd (omega arith)
          not_past (Some c) shorter after within = absurd (omega arith)

  pub goes_on : (window : ℕ) (rows : List Row) (row : Row) → IsListing n q without window rows (Some row) → next_moment without row.pair ≤ q.depart + window
      → (next : Option Row) → IsFirstRowFrom n q (next_moment without row.pair) next → IsListing n q without window (with_departure without next row rows) next
  goes_on window rows row so_far in_window next found = on_test (is_shorter without row.pair && is_later_row next row.pair.arrive) refl
    where
      first : IsFirstRow n q (q.depart + so_far.span) row
      first = so_far.found

      rises : q.depart + (next_moment without row.pair - q.depart) ≡ next_moment without row.pair
      rises = let after = after_departure without row.pair in let late = first.late in omega arith

      longer : so_far.span ≤ next_moment without row.pair - q.depart
      longer = let after = after_departure without row.pair in let late = first.late in omega arith

      only_row : (p : Pair) → IsListed n q without (next_moment without row.pair - q.depart) p → q.depart + so_far.span ≤ p.depart → row.pair ≡ p
      only_row p is late =
          let early = is.within in
          let at = rises in
          only (q.depart + so_far.span) row first (next_moment without row.pair - q.depart) p is late (omega arith)

      listing : (rows : List Row) → AreRows n q without (next_moment without row.pair - q.depart) rows → All (IsPrintableRow n) rows → IsListing n q without window rows next
      listing rows are printable =
          let at = rises in
          record {
            span = next_moment without row.pair - q.depart;
            within = omega arith;
            are = are;
            printable = printable;
            found = subst (λ t. IsFirstRowFrom n q t next) (sym rises) found;
          }

      on_test : (b : Bool) → (is_shorter without row.pair && is_later_row next row.pair.arrive) ≡ b → IsListing n q without window (cond b (rows ++ row ∷ []) rows) next
      on_test true e =
          let tests = both (is_shorter without row.pair) (is_later_row next row.pair.arrive) e in
          let at = rises in
          let after = after_departure without row.pair in
          let listed = worth (q.depart + so_far.span) row first next found (next_moment without row.pair - q.depart) (omega arith) tests.0 tests.1 in
          listing (rows ++ row ∷ [])
          (one_more so_far.span (next_moment without row.pair - q.depart) rows row so_far.are longer first.late listed first.is_row only_row)
          (All-push (IsPrintableRow n) rows row so_far.printable first.printable)
      on_test false e =
          listing rows
          (widened so_far.span (next_moment without row.pair - q.depart) rows so_far.are longer
          (λ p is late. not_worth (q.depart + so_far.span) row first next found (next_moment without row.pair - q.depart)
          (subst (IsListed n q without (next_moment without row.pair - q.depart)) (sym (only_row p is late)) is) e))
          so_far.printable
