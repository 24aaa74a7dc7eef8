-- When and how often trips leave, by arithmetic: what is kept of a headway's departures, and how many they are.
use Rattle.plan_base.proofs.Common.{◌≡◌, ℕ, zero, suc, ◌+◌, ◌-◌, ◌*◌, ◌<◌, ◌≤◌, max, min, List, [], ◌∷◌, ◌++◌, length, Bool, true, false, not, ◌&&◌, nat_le, nat_lt, if◌then◌else◌, refl, sym, ap, ◌∙◌, arith, ⊎_elim, filter, div_ceil, All, flat_map, list_all, and_parts, cases_lt, nat_tests, length-flat_map, filter-append, filter_passes, length-filter, mul-le}
use Rattle.std.proofs.Common.{suc-mul}
use Rattle.std.proofs.lemmas.Grind.{div_ceil_times}
use Rattle.std.proofs.lemmas.List.Filters.{length-filter_both}
use Rattle.gtfs_tables.specs.{CallRow, FrequencyRow}
use Rattle.region_build.specs.{departing, departures_by, departures_by_all, departures_of, first_departure, is_copy_early, is_kept, is_leaving, leaves_of, runs, late_copies, SourceLists, inside.AreCopyCounts, inside.AreRowCounts, inside.kept_before, inside.latest_of, inside.leaves_by, declared.headways.CopyCounts.CopyCounts}

-- ---- how many departures there are

at_most : (p q x h : ℕ) → x ≤ q * h → p * h < x + h → p ≤ q
at_most p q x h enough few = ⊎_elim
    (λ above. let more = mul-le (q + 1) h p h (omega arith) (omega arith) in absurd (omega (arith, more)))
    (λ below. below) (cases_lt q p)

none_behind : (most t end headway : ℕ) → end ≤ t → departing most t end headway ≡ []
none_behind zero t end headway behind = refl
none_behind (suc most) t end headway behind =
    let test : nat_lt t end ≡ false = grind (arith, nat_tests, behind) in
    rw test refl

-- so many headways reach the end, and one less does not
counted_departing : (most t end headway : ℕ) → end ≤ t + most → 1 ≤ headway
    → (end - t ≤ length (departing most t end headway) * headway) × (length (departing most t end headway) * headway < end - t + headway)
counted_departing zero t end headway enough some = (omega arith, omega arith)
counted_departing (suc most) t end headway enough some = ⊎_elim
    (λ before.
    let test : nat_lt t end ≡ true = grind (arith, nat_tests, before) in
    let rest = counted_departing most (t + headway) end headway (omega (arith, before, enough)) some in
    let more = suc-mul (length (departing most (t + headway) end headway)) headway in
    ⊎_elim
    (λ on. rw test (omega (arith, rest, more, before, on), omega (arith, rest, more, before, on)))
    (λ last.
    let none = ap (λ times. length times * headway) (none_behind most (t + headway) end headway last) in
    rw test (omega (arith, more, none, before, last), omega (arith, more, none, before, last)))
    (cases_lt (t + headway) end))
    (λ behind.
    let test : nat_lt t end ≡ false = grind (arith, nat_tests, behind) in
    rw test (omega (arith, behind), omega (arith, behind)))
    (cases_lt t end)

count_departing : (most t end headway : ℕ) → end ≤ t + most → 1 ≤ headway → length (departing most t end headway) ≡ div_ceil (end - t) headway
count_departing most t end headway enough some =
    let here = counted_departing most t end headway enough some in
    let there = div_ceil_times (end - t) headway (omega arith) in
    let low : length (departing most t end headway) ≤ div_ceil (end - t) headway = at_most _ _ (end - t) headway (omega (arith, there)) (omega (arith, here)) in
    let high : div_ceil (end - t) headway ≤ length (departing most t end headway) = at_most _ _ (end - t) headway (omega (arith, here)) (omega (arith, there)) in
    omega (arith, low, high)

pub count_departures : (row : FrequencyRow) → 1 ≤ row.headway → length (departures_by row) ≡ div_ceil (row.end - row.start) row.headway
unfolding departures_by
count_departures row some = count_departing (row.end - row.start) row.start row.end row.headway (omega arith) some

pub count_leaves : (before : ℕ) (row : FrequencyRow) → 1 ≤ row.headway → length (leaves_by before row) ≡ div_ceil (min row.end before - row.start) row.headway
unfolding leaves_by
count_leaves before row some = count_departing (row.end - row.start) row.start (min row.end before) row.headway (omega arith) some

-- ---- which departures are kept

kept_front : (p : ℕ → Bool) (before : ℕ) → ((leave : ℕ) → p leave ≡ nat_lt leave before)
    → (most t end headway : ℕ) → filter p (departing most t end headway) ≡ departing most t (min end before) headway
kept_front p before tests zero t end headway = refl
kept_front p before tests (suc most) t end headway = ⊎_elim
    (λ early. ⊎_elim
    (λ kept.
    let one : nat_lt t end ≡ true = grind (arith, nat_tests, early) in
    let two : nat_lt t (min end before) ≡ true = grind (arith, nat_tests, early, kept) in
    let three : p t ≡ true = tests t ∙ grind (arith, nat_tests, kept) in
    rw (one, two, three) (ap (λ times. t ∷ times) (kept_front p before tests most (t + headway) end headway)))
    (λ late.
    let one : nat_lt t end ≡ true = grind (arith, nat_tests, early) in
    let two : nat_lt t (min end before) ≡ false = grind (arith, nat_tests, late) in
    let three : p t ≡ false = tests t ∙ grind (arith, nat_tests, late) in
    rw (one, two, three) (kept_front p before tests most (t + headway) end headway ∙ none_behind most (t + headway) (min end before) headway (omega (arith, late))))
    (cases_lt t before))
    (λ behind.
    let one : nat_lt t end ≡ false = grind (arith, nat_tests, behind) in
    let two : nat_lt t (min end before) ≡ false = grind (arith, nat_tests, behind) in
    rw (one, two) refl)
    (cases_lt t end)

-- ---- a copy is kept where it leaves before a time

and_rejoins : (a b c d : Bool) → (a && b) ≡ d → (a && (b && c)) ≡ (d && c)
and_rejoins true b c d e = ap (λ x. x && c) e
and_rejoins false b c d e = ap (λ x. x && c) e

early_step : (m leave first arr dep : ℕ)
    → (nat_lt (m + leave) (604800 + first) && (nat_le (arr + leave - first) 604799 && nat_le (dep + leave - first) 604799)) ≡ nat_lt (max m (max arr dep) + leave) (604800 + first)
early_step m leave first arr dep = grind (arith, nat_tests)

early_all : (first leave m : ℕ) (calls : List CallRow)
    → (nat_lt (m + leave) (604800 + first) && list_all (is_copy_early first leave) calls) ≡ nat_lt (latest_of m calls + leave) (604800 + first)
early_all first leave m [] = and_true (nat_lt (m + leave) (604800 + first))
  where
    and_true : (a : Bool) → (a && true) ≡ a
    and_true true = refl
    and_true false = refl
early_all first leave m (call ∷ calls) =
    and_rejoins (nat_lt (m + leave) (604800 + first)) (is_copy_early first leave call) (list_all (is_copy_early first leave) calls) _ (early_step m leave first call.arr call.dep)
    ∙ early_all first leave (max m (max call.arr call.dep)) calls

first_early : (leave arr dep : ℕ) → (nat_lt (0 + leave) (604800 + dep) && (nat_le (arr + leave - dep) 604799 && nat_le (dep + leave - dep) 604799)) ≡ (nat_le (arr + leave - dep) 604799 && nat_le (dep + leave - dep) 604799)
first_early leave arr dep = grind (arith, nat_tests)

kept_if_before : (leave : ℕ) (calls : List CallRow) → 0 < length calls → list_all (is_copy_early (first_departure calls) leave) calls ≡ nat_lt leave (kept_before calls)
kept_if_before leave [] some = absurd (omega arith)
kept_if_before leave (call ∷ calls) some =
    sym (and_rejoins (nat_lt (0 + leave) (604800 + call.dep)) (is_copy_early call.dep leave call) (list_all (is_copy_early call.dep leave) calls) (is_copy_early call.dep leave call) (first_early leave call.arr call.dep))
    ∙ early_all call.dep leave 0 (call ∷ calls) ∙ moved_over (latest_of 0 (call ∷ calls)) (604800 + call.dep)
  where
    moved_over : (latest end : ℕ) → nat_lt (latest + leave) end ≡ nat_lt leave (end - latest)
    moved_over latest end = grind (arith, nat_tests)

-- ---- all of it, trip by trip

filter-flat_map : {X Y : Type 0} (p : Y → Bool) (f g : X → List Y) → ((x : X) → filter p (f x) ≡ g x) → (xs : List X) → filter p (flat_map f xs) ≡ flat_map g xs
filter-flat_map p f g each [] = refl
filter-flat_map p f g each (x ∷ xs) = filter-append p (f x) (flat_map f xs) ∙ ap (λ front. front ++ filter p (flat_map f xs)) (each x) ∙ ap (λ back. g x ++ back) (filter-flat_map p f g each xs)

module _ (source : SourceLists) where
  never : is_leaving source ≡ false → departures_of source ≡ []
  unfolding departures_of
  never e = rw e refl

  pub leaves_never : is_leaving source ≡ false → leaves_of source ≡ []
  unfolding leaves_of
  leaves_never e = ap (filter (is_kept source)) (never e)

  pub none_counted : is_leaving source ≡ false → (counts : CopyCounts) → counts.kept ≡ 0 → counts.all ≡ 0 → AreCopyCounts source counts
  none_counted e counts kept all = record { kept = kept ∙ sym (ap length (leaves_never e)); all = all ∙ sym (ap length (never e)) }

  module _ (goes : is_leaving source ≡ true) where
    tests : (leave : ℕ) → is_kept source leave ≡ nat_lt leave (kept_before source.calls)
    tests leave = kept_if_before leave source.calls (let some = (and_parts (runs source) _ goes).0 in grind (arith, nat_tests, some))

    -- without headways it leaves once
    module _ (none : source.frequencies ≡ []) where
      once : departures_of source ≡ first_departure source.calls ∷ []
      unfolding departures_of
      once = rw goes (ap (departures_by_all source) none)

      pub leaves_once : leaves_of source ≡ (if nat_lt (first_departure source.calls) (kept_before source.calls) then first_departure source.calls ∷ [] else [])
      unfolding leaves_of
      leaves_once = ap (filter (is_kept source)) once ∙ ap (λ kept. if kept then first_departure source.calls ∷ [] else []) (tests (first_departure source.calls))

      pub once_counted : (counts : CopyCounts) → counts.all ≡ 1 → counts.kept ≡ length (if nat_lt (first_departure source.calls) (kept_before source.calls) then first_departure source.calls ∷ [] else []) → AreCopyCounts source counts
      once_counted counts all kept = record { kept = kept ∙ sym (ap length leaves_once); all = all ∙ sym (ap length once) }

    -- or by its headways
    module _ (some : 0 < length source.frequencies) where
      by_all : departures_of source ≡ flat_map departures_by source.frequencies
      unfolding departures_of
      by_all = rw goes (by_rows source.frequencies some)
        where
          by_rows : (rows : List FrequencyRow) → 0 < length rows → departures_by_all source rows ≡ flat_map departures_by rows
          by_rows [] some = absurd (omega arith)
          by_rows (row ∷ rows) some = refl

      by_row : (row : FrequencyRow) → filter (is_kept source) (departures_by row) ≡ leaves_by (kept_before source.calls) row
      unfolding departures_by leaves_by
      by_row row = kept_front (is_kept source) (kept_before source.calls) tests (row.end - row.start) row.start row.end row.headway

      pub leaves_by_all : leaves_of source ≡ flat_map (leaves_by (kept_before source.calls)) source.frequencies
      unfolding leaves_of
      leaves_by_all = ap (filter (is_kept source)) by_all ∙ filter-flat_map (is_kept source) departures_by (leaves_by (kept_before source.calls)) by_row source.frequencies

      pub rows_counted : (counts : CopyCounts) → AreRowCounts (kept_before source.calls) source.frequencies counts → AreCopyCounts source counts
      rows_counted counts are = record {
        kept = are.kept ∙ sym (ap length leaves_by_all ∙ length-flat_map (leaves_by (kept_before source.calls)) source.frequencies);
        all = are.all ∙ sym (ap length by_all ∙ length-flat_map departures_by source.frequencies);
      }

  -- what is not kept is late
  pub late_counted : (counts : CopyCounts) → AreCopyCounts source counts → counts.all - counts.kept ≡ late_copies source
  unfolding leaves_of
  late_counted counts are =
      let both = length-filter_both (is_kept source) (λ leave. not (is_kept source leave)) (λ leave. refl) (departures_of source) in
      let late = length-filter (λ leave. not (is_kept source leave)) (departures_of source) in
      omega (arith, both, late, are.kept, are.all)

  -- all times at which a trip leaves are those of copies that are kept
  pub all_kept : All (λ leave. is_kept source leave ≡ true) (leaves_of source)
  unfolding leaves_of
  all_kept = filter_passes (is_kept source) (departures_of source)

  -- and it runs
  pub leaves_run : 0 < length (leaves_of source) → runs source ≡ true
  leaves_run some = by_test (is_leaving source) refl
    where
      by_test : (goes : Bool) → is_leaving source ≡ goes → runs source ≡ true
      by_test true e = (and_parts (runs source) _ e).0
      by_test false e = absurd (omega (arith, some, ap length (leaves_never e)))
