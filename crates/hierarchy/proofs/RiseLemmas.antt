-- The rises among entries, those that begin at one node, and their places.
use Rattle.plan_base.proofs.Common.{◌≡◌, ℕ, ◌+◌, ◌-◌, ◌<◌, ◌≤◌, ◌∙◌, nat_lt, cond, true, List, ◌++◌, length, length-append, map, take, drop, get_or, ap, arith, sym, subst, inl, inr, All, AllPairs, Contains, filter, slice_get, slice_range, Some, range_with_len, IsNonDecreasingBy, cases_lt, cases_eq, drop-map, get_or-append-add, get_or-map, get_or_default, length-map, map-append, take-map, All-map, sum_by-append, slice_get_within, get_or_from_slice_get}
use Rattle.std.proofs.Common.{map-id}
use Rattle.std.proofs.lemmas.Simd.{map-map}
use Rattle.mode_network.specs.{count_below, range_of}
use Rattle.hierarchy.specs.{Entry, NodeRow, HierarchyLists, ArePlaces, entry_at, from_of, no_entry, places_before, places_of, IsHierarchy, AreEndsBelow, AreRows, AreRises, AreRisesFrom, IsRiseRange, IsRiseOf, Rise, RisesFrom, all_rises, is_rise, place_of, rise_at, rise_from, rise_places_from, rises_in, rises_of}
use Rattle.hierarchy.proofs.{LookupLemmas.from_rises, PlaceLemmas.Contains-map, PlaceLemmas.places_ascend, PlaceLemmas.places_from, PlaceLemmas.places_have, PlaceLemmas.places_pass, PlaceLemmas.places_split, PlaceLemmas.places_within, PlaceLemmas.range_all, PlaceLemmas.range_has, PlaceLemmas.range_length, PlaceLemmas.range_read}
use Rattle.mode_network.proofs.KeyLemmas.{above_stands_after, below_stands_before, count_all, count_most, count_none, count_rises, in_range_of_key, key_in_range}

-- ---- all of them

module _ (order : List ℕ) (entries : List Entry) where
  abbrev pub make : ℕ → Rise
  make place = rise_at place (entry_at entries place)

  abbrev pub places : List ℕ
  places = places_of (is_rise order) entries

  -- the places of rises tell them
  pub places_told : map place_of (rises_in order entries) ≡ places
  places_told = map-map place_of make places ∙ map-id places

  is_rise_of : (place : ℕ) → place < length entries → is_rise order (entry_at entries place) ≡ true → IsRiseOf order entries (rise_at place (entry_at entries place))
  is_rise_of place lt up = record {
    within = lt;
    begins = λ d. ap from_of (here d);
    ends = λ d. ap (λ (e : Entry). e.to) (here d);
    weighs = λ d. ap (λ (e : Entry). e.weight) (here d);
    leads = λ d. ap (is_rise order) (here d) ∙ up;
  } where
    here : (d : Entry) → get_or entries place d ≡ entry_at entries place
    here d = get_or_default entries place d no_entry lt

  module _ (ascend : IsNonDecreasingBy from_of entries) where
    rising : IsNonDecreasingBy rise_from (rises_in order entries)
    rising i j d le lt =
        let long = length-map places make in
        let k = get_or places i 0 in
        let l = get_or places j 0 in
        let low : k ≤ l = elim (cases_eq i j) [
          | inl same ↦ (let e : k ≡ l = ap (λ n. get_or places n 0) same in omega arith)
          | inr apart ↦ (let up = places_ascend (is_rise order) entries (length entries) i j 0 (omega (arith, apart)) (omega (arith, long)) in omega arith)
        ] in
        rw (get_or-map make places i 0 d (omega (arith, long)), get_or-map make places j 0 d (omega (arith, long)))
        (ascend k l no_entry low (places_within (is_rise order) entries (length entries) j 0 (omega (arith, long))))

    pub are_rises : AreRises order entries (rises_in order entries)
    are_rises = record {
      each = All-map (IsRiseOf order entries) make places
          (λ i d lt. is_rise_of (get_or places i d) (places_within (is_rise order) entries (length entries) i d lt) (places_pass (is_rise order) entries (length entries) i d lt));
      all = λ k d lt up.
          let here : get_or entries k d ≡ entry_at entries k = get_or_default entries k d no_entry lt in
          rw here (Contains-map make places k (places_have (is_rise order) entries (length entries) k lt (sym (ap (is_rise order) here) ∙ up)));
      rising = rising;
    }

    module _ (v : ℕ) where
      abbrev n : ℕ
      n = count_below from_of entries v

      abbrev front : List ℕ
      front = places_before (is_rise order) entries n

      abbrev back : List ℕ
      back = filter (λ place. is_rise order (entry_at entries place)) (range_with_len n (length entries - n))

      whole : places ≡ front ++ back
      whole = places_split (is_rise order) entries n (length entries) (count_most from_of entries v)

      is_low : (k : ℕ) → k < n → (entry_at entries k).from < v
      is_low k lt = elim (cases_lt (entry_at entries k).from v) [
        | inl less ↦ less
        | inr more ↦ (let inside = count_most from_of entries v in let after = above_stands_after from_of entries ascend v k no_entry (omega arith) more in absurd (omega arith))
      ]

      is_high : (k : ℕ) → n ≤ k → k < length entries → v ≤ (entry_at entries k).from
      is_high k le lt = elim (cases_lt (entry_at entries k).from v) [
        | inl less ↦ (let before = below_stands_before from_of entries ascend v k no_entry lt less in absurd (omega arith))
        | inr more ↦ more
      ]

      front_low : All (λ (rise : Rise). rise.from < v) (map make front)
      front_low = All-map (λ (rise : Rise). rise.from < v) make front (λ i d lt. is_low (get_or front i d) (places_within (is_rise order) entries n i d lt))

      inside : All (λ k. k < length entries) back
      inside i d lt =
          let long = length-append front back in
          let there = places_within (is_rise order) entries (length entries) (length front + i) d (omega (arith, long, ap length whole)) in
          subst (λ k. k < length entries) (ap (λ xs. get_or xs (length front + i) d) whole ∙ get_or-append-add front back i d) there

      back_high : All (λ (rise : Rise). v ≤ rise.from) (map make back)
      back_high = All-map (λ (rise : Rise). v ≤ rise.from) make back
          (λ i d lt. is_high (get_or back i d) (places_from (is_rise order) entries n (length entries - n) i d lt) (inside i d lt))

      all_count : count_below rise_from (rises_in order entries) v ≡ length front
      all_count =
          ap (λ ks. count_below rise_from (map make ks) v) whole
          ∙ ap (λ rises. count_below rise_from rises v) (map-append make front back)
          ∙ sum_by-append (λ (rise : Rise). cond (nat_lt rise.from v) 1 0) (map make front) (map make back)
          ∙ sums (count_all rise_from (map make front) v front_low) (count_none rise_from (map make back) v back_high) (length-map front make)
        where
          sums : count_below rise_from (map make front) v ≡ length (map make front) → count_below rise_from (map make back) v ≡ 0 → length (map make front) ≡ length front
              → count_below rise_from (map make front) v + count_below rise_from (map make back) v ≡ length front
          sums f b l = omega arith

      -- so many rises begin below v as have their place before the entries from v on
      pub rises_below : length (places_before (is_rise order) entries (count_below from_of entries v)) ≡ count_below rise_from (rises_in order entries) v
      rises_below = sym all_count

-- ---- those that begin at one node

module _ (h : HierarchyLists) (rules : IsHierarchy h) where
  pub all_are_rises : AreRises h.order h.entries (all_rises h)
  all_are_rises = are_rises h.order h.entries (from_rises h.entries rules.entries_ascend)

  module _ (u : ℕ) where
    abbrev pub first : ℕ
    first = count_below rise_from (all_rises h) u

    abbrev pub past : ℕ
    past = count_below rise_from (all_rises h) (u + 1)

    past_most : past ≤ length (all_rises h)
    past_most = count_most rise_from (all_rises h) (u + 1)

    grows : first ≤ past
    grows = count_rises rise_from (all_rises h) u (u + 1) (omega arith)

    pub is_rise_range : IsRiseRange h u (all_rises h) first past
    is_rise_range = record {
      in_order = grows;
      within = past_most;
      are = record {
        each = range_all (all_rises h) first past grows past_most (IsRiseOf h.order h.entries) all_are_rises.each;
        from_u = λ k d lt. let inside : k < past - first = omega (arith, range_length (all_rises h) first past grows past_most) in
            ap rise_from (range_read (all_rises h) first past grows past_most k d inside) ∙ key_in_range rise_from (all_rises h) all_are_rises.rising u (first + k) d (omega arith) (omega (arith, grows));
        all = λ k d lt from up. listed k d lt from up;
      };
    }
      where
        listed : (k : ℕ) (d : Entry) → k < length h.entries → (get_or h.entries k d).from ≡ u → is_rise h.order (get_or h.entries k d) ≡ true
            → Contains (rises_of h u) (rise_at k (get_or h.entries k d))
        listed k d lt from up =
            let row : Rise = rise_at k (get_or h.entries k d) in
            let there = all_are_rises.all k d lt up in
            let inside = in_range_of_key rise_from (all_rises h) all_are_rises.rising u there.0 row there.1 (ap rise_from there.2 ∙ from) in
            range_has (all_rises h) first past grows past_most row there.0 inside.0 inside.1 there.2

    pub are_rises_from : AreRisesFrom h u (rises_of h u)
    are_rises_from = is_rise_range.are

    -- the places of those from u stand side by side among the places of all
    pub places_ranged : rise_places_from h u ≡ slice_range (places_of (is_rise h.order) h.entries) first past
    places_ranged =
        sym (take-map place_of (past - first) (drop first (all_rises h))) ∙ ap (take (past - first)) (sym (drop-map place_of first (all_rises h))) ∙ ap (λ ks. slice_range ks first past) (places_told h.order h.entries)

    pub are_rise_places : ArePlaces (RisesFrom h.order u) h.entries (rise_places_from h u)
    are_rise_places = record {
      ascending = subst (AllPairs (λ j k. j < k)) (sym places_ranged) ascends;
      within = All-map (λ k. k < length h.entries) place_of (rises_of h u) (λ i d lt. (are_rises_from.each i d lt).within);
      each = λ k e there is. rises k e there is;
      all = λ k e is up.
          let lt = slice_get_within h.entries k e is in
          let here = get_or_from_slice_get h.entries k e e is in
          let found = are_rises_from.all k e lt (ap from_of here ∙ up.begins) (ap (is_rise h.order) here ∙ up.leads) in
          Contains-map place_of (rises_of h u) (rise_at k (get_or h.entries k e)) found;
    } where
      long : past ≤ length (places_of (is_rise h.order) h.entries)
      long = let same = length-map (places_of (is_rise h.order) h.entries) (make h.order h.entries) in omega (arith, past_most)

      ascends : AllPairs (λ j k. j < k) (slice_range (places_of (is_rise h.order) h.entries) first past)
      ascends i j d lt inside =
          let after : j < past - first = omega (arith, range_length (places_of (is_rise h.order) h.entries) first past grows long) in
          rw (range_read (places_of (is_rise h.order) h.entries) first past grows long i d (omega arith), range_read (places_of (is_rise h.order) h.entries) first past grows long j d after)
          (places_ascend (is_rise h.order) h.entries (length h.entries) (first + i) (first + j) d (omega arith) (omega (arith, long)))

      rises : (k : ℕ) (e : Entry) → Contains (rise_places_from h u) k → slice_get h.entries k ≡ Some e → RisesFrom h.order u e
      rises k e (i, lt, at) is =
          let inside : i < length (rises_of h u) = omega (arith, length-map (rises_of h u) place_of) in
          let nothing : Rise = record { from = 0; to = 0; place = k; weight = 0 } in
          let rise = get_or (rises_of h u) i nothing in
          let of = are_rises_from.each i nothing inside in
          let place : rise.place ≡ k = sym (get_or-map place_of (rises_of h u) i nothing k inside) ∙ at in
          let here : get_or h.entries rise.place e ≡ e = ap (λ p. get_or h.entries p e) place ∙ get_or_from_slice_get h.entries k e e is in
          record {
            begins = sym (ap from_of here) ∙ of.begins e ∙ are_rises_from.from_u i nothing inside;
            leads = sym (ap (is_rise h.order) here) ∙ of.leads e;
          }

-- past all nodes no rise begins
pub range_past : (h : HierarchyLists) (u nodes count : ℕ) → nodes ≤ u → All (AreEndsBelow nodes) h.entries → count ≡ length (places_of (is_rise h.order) h.entries)
    → (count, count) ≡ range_of rise_from (all_rises h) u
range_past h u nodes count past below is =
    let low = all_below u past in
    let high = all_below (u + 1) (omega arith) in
    ap (λ n. (n, count)) low ∙ ap (λ n. (count_below rise_from (all_rises h) u, n)) high
  where
    lower : (v : ℕ) → nodes ≤ v → All (λ (rise : Rise). rise.from < v) (all_rises h)
    lower v from = All-map (λ (rise : Rise). rise.from < v) (make h.order h.entries) (places_of (is_rise h.order) h.entries)
        (λ i d lt. is_low (get_or (places_of (is_rise h.order) h.entries) i d) (places_within (is_rise h.order) h.entries (length h.entries) i d lt))
      where
        is_low : (k : ℕ) → k < length h.entries → (entry_at h.entries k).from < v
        is_low k lt = let less = (below k no_entry lt).0 in omega arith

    all_below : (v : ℕ) → nodes ≤ v → count ≡ count_below rise_from (all_rises h) v
    all_below v from = is ∙ sym (length-map (places_of (is_rise h.order) h.entries) (make h.order h.entries)) ∙ sym (count_all rise_from (all_rises h) v (lower v from))

-- two rows tell where the rises of a node stand
pub range_found : (order : List ℕ) (entries : List Entry) (nodes : ℕ) (rows : List NodeRow) → AreRows order entries nodes rows → (u : ℕ) → u < nodes
    → (first end : NodeRow) → first ≡ get_or rows u first → end ≡ get_or rows (u + 1) end
    → ((first.rises, end.rises) ≡ range_of rise_from (rises_in order entries) u) × ((first.entries, end.entries) ≡ range_of from_of entries u)
range_found order entries nodes rows are u lt first end at_first at_end =
    let one = at_first ∙ are.are u first (omega arith) in
    let other = at_end ∙ are.are (u + 1) end (omega arith) in (
      ap (λ (row : NodeRow). (row.rises, end.rises)) one ∙ ap (λ (row : NodeRow). (count_below rise_from (rises_in order entries) u, row.rises)) other,
      ap (λ (row : NodeRow). (row.entries, end.entries)) one ∙ ap (λ (row : NodeRow). (count_below from_of entries u, row.entries)) other,
    )
