-- What the tables of a feed say of its trips is one thing.
use Rattle.plan_base.proofs.Common.{◌≡◌, ℕ, zero, suc, ◌+◌, ◌/◌, ◌%◌, ◌≤◌, Bool, true, false, ◌==◌, ◌&&◌, List, [], ◌∷◌, refl, sym, ap, ap₂, ◌∙◌, subst, arith, filter, nat_eq, bit_at, IsDistinct, IsTotalOrder, nat_cmp, ordering_then, Ordering, Equal, nat_tests, nat_cmp_total, on_total, then_total, exact_pairs, exact_unsigned, bit_at-lt}
use Rattle.std.proofs.lemmas.Nat.Bits.{bit_at-suc, bit_at_lowest}
use Rattle.plan_base.specs.{DaySet}
use Rattle.service_days.specs.DaysMeaning.{DaysMeaning}
use Rattle.gtfs_tables.specs.{FeedLists.FeedLists, IsFeed, is_same_call, CallRow, FrequencyRow, TripRow}
use Rattle.region_build.specs.{is_of, trip_of_call, trip_of_frequency, AreDaysOf, AreCallsInOrder, AreFrequenciesInOrder, AreSourcesFrom, AreTripSources, IsSource, SourceLists}
use Rattle.promises.proofs.{HeadwayLemmas.is_same_headway, OrderLemmas.distinct_once}

-- ---- days

-- numbers with the same bits are the same
same_bits : (most a b : ℕ) → a ≤ most → b ≤ most → ((i : ℕ) → bit_at a i ≡ bit_at b i) → a ≡ b
same_bits zero a b p q same = omega arith
same_bits (suc most) a b p q same =
    let half : a / 2 ≡ b / 2 = same_bits most (a / 2) (b / 2) (omega arith) (omega arith) (λ i. sym (bit_at-suc a i) ∙ same (suc i) ∙ bit_at-suc b i) in
    let low : a % 2 ≡ b % 2 = sym (bit_at_lowest a) ∙ same 0 ∙ bit_at_lowest b in
    omega (arith, half, low)

same_bit : (a b i : ℕ) → (bit_at a i == 1) ≡ (bit_at b i == 1) → bit_at a i ≡ bit_at b i
same_bit a b i same = by_test (bit_at b i == 1) same refl
  where
    by_test : (t : Bool) → (bit_at a i == 1) ≡ t → (bit_at b i == 1) ≡ t → bit_at a i ≡ bit_at b i
    by_test true p q = grind (arith, nat_tests)
    by_test false p q = let x = bit_at-lt a i in let y = bit_at-lt b i in grind (arith, nat_tests)

-- a service runs on one set of days
days_once : (feed : FeedLists) (days : DaysMeaning) (id : List ℕ) (a b : DaySet) → AreDaysOf feed days id a → AreDaysOf feed days id b → a ≡ b
days_once feed days id a b p q =
    let same : a.0 ≡ b.0 = same_bits (a.0 + b.0) a.0 b.0 (omega arith) (omega arith) (λ i. same_bit a.0 b.0 i (p.runs i ∙ sym (q.runs i))) in
    ap (λ (n : ℕ). let set : DaySet = record { 0 = n } in set) same

-- ---- calls and headways

test_flips : (x y : ℕ) → nat_eq x y ≡ nat_eq y x
test_flips x y = by_test (nat_eq x y) refl
  where
    by_test : (t : Bool) → nat_eq x y ≡ t → nat_eq x y ≡ nat_eq y x
    by_test true e = grind (arith, nat_tests)
    by_test false e = grind (arith, nat_tests)

-- pairs that tie are the same
pair_tested : (a b c d : ℕ) → ordering_then (nat_cmp a c) (nat_cmp b d) ≡ Equal → (nat_eq a c && nat_eq b d) ≡ true
pair_tested a b c d e =
    let pair : Path (ℕ × ℕ) (a, b) (c, d) = exact_pairs nat_cmp nat_cmp exact_unsigned exact_unsigned (a, b) (c, d) e in
    let first : a ≡ c = ap (λ (p : ℕ × ℕ). p.0) pair in
    let second : b ≡ d = ap (λ (p : ℕ × ℕ). p.1) pair in
    grind (arith, nat_tests)

abbrev call_cmp : CallRow → CallRow → Ordering
call_cmp a b = ordering_then (nat_cmp a.trip b.trip) (nat_cmp a.sequence b.sequence)

calls_total : IsTotalOrder call_cmp
calls_total = then_total (on_total (λ (a : CallRow). a.trip) nat_cmp_total) (on_total (λ (a : CallRow). a.sequence) nat_cmp_total)

abbrev headway_cmp : FrequencyRow → FrequencyRow → Ordering
headway_cmp a b = ordering_then (nat_cmp a.trip b.trip) (nat_cmp a.row b.row)

headways_total : IsTotalOrder headway_cmp
headways_total = then_total (on_total (λ (a : FrequencyRow). a.trip) nat_cmp_total) (on_total (λ (a : FrequencyRow). a.row) nat_cmp_total)

module _ (feed : FeedLists) (rules : IsFeed feed) (apart : IsDistinct is_same_headway feed.frequencies) where
  calls_once : (xs ys : List CallRow) → AreCallsInOrder feed.calls xs → AreCallsInOrder feed.calls ys → xs ≡ ys
  calls_once xs ys one other =
      distinct_once call_cmp calls_total is_same_call (λ x y. ap₂ (λ a b. a && b) (test_flips x.trip y.trip) (test_flips x.sequence y.sequence))
      (λ x y e. pair_tested x.trip x.sequence y.trip y.sequence e) feed.calls xs ys rules.sequences one.same other.same one.ascend other.ascend

  headways_once : (xs ys : List FrequencyRow) → AreFrequenciesInOrder feed.frequencies xs → AreFrequenciesInOrder feed.frequencies ys → xs ≡ ys
  headways_once xs ys one other =
      distinct_once headway_cmp headways_total is_same_headway (λ x y. ap₂ (λ a b. a && b) (test_flips x.trip y.trip) (test_flips x.row y.row))
      (λ x y e. pair_tested x.trip x.row y.trip y.row e) feed.frequencies xs ys apart one.same other.same one.ascend other.ascend

-- ---- trips

same_lists : (a b : SourceLists) → a.row ≡ b.row → a.id ≡ b.id → a.letter ≡ b.letter → a.days ≡ b.days → a.calls ≡ b.calls → a.frequencies ≡ b.frequencies → a ≡ b
same_lists a b row id letter days calls frequencies =
    ap (λ x. record a { row = x }) row
    ∙ ap (λ x. record a { row = b.row; id = x }) id
    ∙ ap (λ x. record a { row = b.row; id = b.id; letter = x }) letter
    ∙ ap (λ x. record b { days = x; calls = a.calls; frequencies = a.frequencies }) days
    ∙ ap (λ x. record b { calls = x; frequencies = a.frequencies }) calls
    ∙ ap (λ x. record b { frequencies = x }) frequencies

module _ (feed : FeedLists) (days : DaysMeaning) where
  source_once : (calls : List CallRow) (headways : List FrequencyRow) (trip : TripRow) (a b : SourceLists)
      → IsSource feed days calls headways trip a → IsSource feed days calls headways trip b → a ≡ b
  source_once calls headways trip a b p q =
      same_lists a b (p.row ∙ sym q.row) (p.id ∙ sym q.id) (p.letter ∙ sym q.letter) (days_once feed days trip.service a.days b.days p.runs q.runs)
      (p.calls_are ∙ sym q.calls_are) (p.frequencies_are ∙ sym q.frequencies_are)

  module _ (calls : List CallRow) (headways : List FrequencyRow) where
    sources_from : (k : ℕ) (trips : List TripRow) (xs ys : List SourceLists) → AreSourcesFrom feed days calls headways k trips xs → AreSourcesFrom feed days calls headways k trips ys → xs ≡ ys
    sources_from k [] [] [] p q = refl
    sources_from k [] (x ∷ xs) ys p q = absurd p
    sources_from k [] [] (y ∷ ys) p q = absurd q
    sources_from k (trip ∷ trips) [] ys p q = absurd p
    sources_from k (trip ∷ trips) (x ∷ xs) [] p q = absurd q
    sources_from k (trip ∷ trips) (x ∷ xs) (y ∷ ys) (p, ps) (q, qs) =
        ap₂ (λ (s : SourceLists) (ss : List SourceLists). s ∷ ss) (source_once (filter (is_of trip_of_call k) calls) (filter (is_of trip_of_frequency k) headways) trip x y p q) (sources_from (k + 1) trips xs ys ps qs)

  -- one list of what is said of all trips
  pub sources_once : IsFeed feed → IsDistinct is_same_headway feed.frequencies → (xs ys : List SourceLists) → AreTripSources feed days xs → AreTripSources feed days ys → xs ≡ ys
  sources_once rules apart xs ys one other =
      let calls = calls_once feed rules apart one.calls other.calls one.calls_are other.calls_are in
      let headways = headways_once feed rules apart one.frequencies other.frequencies one.frequencies_are other.frequencies_are in
      sources_from other.calls other.frequencies 0 feed.trips xs ys
      (subst (λ (hs : List FrequencyRow). AreSourcesFrom feed days other.calls hs 0 feed.trips xs) headways
      (subst (λ (cs : List CallRow). AreSourcesFrom feed days cs one.frequencies 0 feed.trips xs) calls one.each)) other.each
