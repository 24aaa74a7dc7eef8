-- The falls by where they lead, and how they are put in chains.
use Rattle.plan_base.proofs.Common.{◌≡◌, ℕ, suc, zero, ◌+◌, ◌-◌, ◌<◌, ◌≤◌, ◌⊎◌, inl, inr, ◌∙◌, nat_eq, ◌&&◌, Bool, true, false, cond, List, [], ◌∷◌, ◌++◌, length, take, drop, set, get_or, add-one, append_assoc, append-nil, le_refl, refl, ap, arith, sym, subst, All, AllPairs, Contains, map, filter, ordering_reverse, range_with_len, cases_lt, eq-eqb, eqb-true, eqb-false, lt-ltb, ltb-true, nat_cmp_total, tied_itself, drop_more, get_or_append_left, get_or_default, get_or_push, get_or-set_other, get_or-set_same, length_push, take-append-drop, take_all, take_more, All-append, All-contains, All-filter, All-head, All-map, All-nil, All-tail, Contains-append_left, Contains-append_right, Contains-push_cases, filter-append, filter_passes, get_or-range_with_len, length-range_with_len, AllPairs-cons, AllPairs-filter, flat_map-append, slice_get-get_or, Less, Greater}
use Rattle.search_laws.specs.{Way}
use Rattle.mode_network.proofs.RuleLemmas.{both}
use Rattle.hierarchy.specs.{HierarchyLists, IsAbove, is_above, AreFrom, ArePlaces, FallsTo, entry_at, no_entry, IsHierarchy, entry_cmp}
use Rattle.hierarchy.proofs.{FallLemmas.into_node, LookupLemmas.entry_total, LookupLemmas.from_rises, OffsetLemmas.are_from, PlaceLemmas.range_ascends, PlaceLemmas.range_within}
use Rattle.phase_graph.specs.{declared.falls.ChainedFall.ChainedFall, declared.falls.Fall.Fall, has_mark, is_fall, entries_at, first_entry, inside.AreChains, inside.HasFalls, inside.IsChain, inside.IsFallAt, inside.IsFallFrom, inside.chained_at, inside.fall_at, inside.falls_from, inside.places_from, inside.places_into, inside.places_into_all, inside.AreMarked, inside.HasNoFalls}

-- ---- the falls to one marked node after the other

-- an entry that leaves the same node as an earlier one stands behind it
abbrev AreInTurn : HierarchyLists → List ℕ → Type 0
AreInTurn h places = AllPairs (λ j k. (entry_at h.entries j).from ≡ (entry_at h.entries k).from → j < k) places

-- the places of all falls are in the list, and no others
pub record AreFallsByEnd (h : HierarchyLists) (marks : List Bool) (places : List ℕ) : Type 0 where
  pub each : All (IsFallAt h marks) places
  pub all : (place : ℕ) → IsFallAt h marks place → Contains places place
  pub in_turn : AreInTurn h places

-- the falls to the first nodes are in the list, and lead to lower nodes than the others will
record AreGathered (h : HierarchyLists) (marks : List Bool) (nodes places : List ℕ) (n : ℕ) : Type 0 where
  pub each : All (IsFallAt h marks) places
  pub so_far : (place : ℕ) → IsFallAt h marks place → Contains (take n nodes) (entry_at h.entries place).to → Contains places place
  pub lower : (m d : ℕ) → n ≤ m → m < length nodes → All (λ k. (entry_at h.entries k).to < get_or nodes m d) places
  pub in_turn : AreInTurn h places

gathered_none : (h : HierarchyLists) (marks : List Bool) (nodes : List ℕ) → AreGathered h marks nodes [] 0
gathered_none h marks nodes = record {
  each = All-nil (IsFallAt h marks);
  so_far = λ place fell there. absurd (omega (arith, there.1));
  lower = λ m d from lt. All-nil (λ k. (entry_at h.entries k).to < get_or nodes m d);
  in_turn = λ i j d before within. absurd (omega arith);
}

-- what holds between any two of a list, any two of another, and one of each, holds between any two of both
pairs_append : (R : ℕ → ℕ → Type 0) (xs ys : List ℕ) → AllPairs R xs → AllPairs R ys → All (λ x. All (R x) ys) xs → AllPairs R (xs ++ ys)
pairs_append R [] ys first second across = second
pairs_append R (x ∷ xs) ys first second across =
    AllPairs-cons R x (xs ++ ys) (All-append (R x) xs ys (λ k d lt. first zero (suc k) d (omega arith) (omega arith)) (All-head (λ z. All (R z) ys) x xs across))
    (pairs_append R xs ys (λ i j d before within. first (suc i) (suc j) d (omega arith) (omega arith)) second (All-tail (λ z. All (R z) ys) x xs across))

module _ (h : HierarchyLists) (rules : IsHierarchy h) (marks : List Bool) (nodes : List ℕ) (are : AreMarked h marks nodes) where
  -- an entry stands before one from the same node to a higher one
  stands_first : (j k : ℕ) → j < length h.entries → (entry_at h.entries j).to < (entry_at h.entries k).to → (entry_at h.entries j).from ≡ (entry_at h.entries k).from → j < k
  stands_first j k within to from = elim (cases_lt j k) [
    | inl before ↦ before
    | inr after ↦ elim (cases_lt k j) [
      | inl behind ↦ (let less : entry_cmp (entry_at h.entries j) (entry_at h.entries k) ≡ Less = rw (from, tied_itself nat_cmp_total (entry_at h.entries k).from, lt-ltb _ _ to) refl in
          let clash : Less ≡ Greater = sym less ∙ entry_total.antisymm (entry_at h.entries j) (entry_at h.entries k) ∙ ap ordering_reverse (rules.entries_ascend k j no_entry behind within) in cc)
      | inr also ↦ (let same : j ≡ k = omega arith in absurd (omega (arith, to, ap (λ i. (entry_at h.entries i).to) same)))
    ]
  ]

  module _ (x : ℕ) (marked : Contains nodes x) (into : List ℕ) (places : ArePlaces (FallsTo h.order x) h.entries into) where
    falls_there : (k d : ℕ) → k < length into → FallsTo h.order x (entry_at h.entries (get_or into k d))
    falls_there k d lt =
        let place = get_or into k d in
        places.each place (entry_at h.entries place) (k, lt, sym (get_or_default into k d place lt)) (slice_get-get_or h.entries place no_entry (places.within k d lt))

    -- what leads down to a node with a mark is a fall
    pub are_falls : All (IsFallAt h marks) into
    are_falls k d lt =
        let place = get_or into k d in
        let e = entry_at h.entries place in
        let within = places.within k d lt in
        let falls = falls_there k d lt in
        let from = are.set e.from (are.followed x marked place e within (get_or_default h.entries place e no_entry within) falls.ends falls.above) in
        let to = are.set e.to (subst (Contains nodes) (sym falls.ends) marked) in
        let above : is_above h.order e.from e.to ≡ true = subst (λ y. is_above h.order e.from y ≡ true) (sym falls.ends) (lt-ltb _ _ falls.above) in
        (within, rw (to, from, above) refl)

    -- and each fall to it does
    has_fall : (place : ℕ) → IsFallAt h marks place → (entry_at h.entries place).to ≡ x → Contains into place
    has_fall place (within, fell) is =
        let e = entry_at h.entries place in
        let tests = both (has_mark marks e.to) (has_mark marks e.from && is_above h.order e.from e.to) fell in
        let above = ltb-true _ _ (both (has_mark marks e.from) (is_above h.order e.from e.to) tests.1).1 in
        places.all place e (slice_get-get_or h.entries place no_entry within) (record { ends = is; above = subst (IsAbove h.order e.from) is above })

  gathered_more : (places : List ℕ) (n : ℕ) (into : List ℕ) → AreGathered h marks nodes places n → n < length nodes → ArePlaces (FallsTo h.order (get_or nodes n 0)) h.entries into → AreGathered h marks nodes (places ++ into) (n + 1)
  gathered_more places n into far lt falls = record {
    each = All-append (IsFallAt h marks) places into far.each (are_falls x here into falls);
    so_far = λ place fell there. elim (Contains-push_cases (take n nodes) x (entry_at h.entries place).to (subst (λ xs. Contains xs (entry_at h.entries place).to) (take_more nodes n 0 lt) there)) [
      | inl before ↦ Contains-append_left places into place (far.so_far place fell before)
      | inr is ↦ Contains-append_right places into place (has_fall x here into falls place fell (sym is))
    ];
    lower = λ m d past within. All-append (λ k. (entry_at h.entries k).to < get_or nodes m d) places into (far.lower m d (omega arith) within)
        (λ i e inside. (let rise = are.ascending n m d (omega arith) within in omega (arith, rise, (falls_there x here into falls i e inside).ends, get_or_default nodes n 0 d lt)));
    in_turn = pairs_append (λ j k. (entry_at h.entries j).from ≡ (entry_at h.entries k).from → j < k) places into far.in_turn (λ i j d before within from. falls.ascending i j d before within)
        (λ i d inside j e within. stands_first (get_or places i d) (get_or into j e) (far.each i d inside).0
        (omega (arith, far.lower n 0 (omega arith) lt i d inside, (falls_there x here into falls j e within).ends)));
  } where
    x : ℕ
    x = get_or nodes n 0

    here : Contains nodes x
    here = (n, lt, get_or_default nodes n x 0 lt)

  gathered : (n : ℕ) → n ≤ length nodes → AreGathered h marks nodes (places_into_all h (take n nodes)) n
  gathered zero le = gathered_none h marks nodes
  gathered (suc n) le =
      let x = get_or nodes n 0 in
      let more = gathered_more (places_into_all h (take n nodes)) n (places_into h x) (gathered n (omega arith)) (omega arith) (into_node h.order h.entries x) in
      let last : places_into_all h (take (n + 1) nodes) ≡ places_into_all h (take n nodes) ++ places_into h x =
      ap (places_into_all h) (take_more nodes n 0 (omega arith)) ∙ flat_map-append (places_into h) (take n nodes) (x ∷ []) ∙ ap (λ ps. places_into_all h (take n nodes) ++ ps) (append-nil (places_into h x)) in
      subst (λ m. AreGathered h marks nodes (places_into_all h (take m nodes)) m) (add-one n) (subst (λ ps. AreGathered h marks nodes ps (n + 1)) (sym last) more)

  pub all_falls : AreFallsByEnd h marks (places_into_all h nodes)
  all_falls =
      let whole = take_all (length nodes) nodes (le_refl _) in
      let far = subst (λ ns. AreGathered h marks nodes (places_into_all h ns) (length nodes)) whole (gathered (length nodes) (le_refl _)) in
      record {
        each = far.each;
        all = λ place fell. far.so_far place fell (subst (λ xs. Contains xs (entry_at h.entries place).to) (sym whole) (are.listed (entry_at h.entries place).to (both _ _ fell.1).0));
        in_turn = far.in_turn;
      }

-- the node that a fall leaves has a mark
pub leaves_marked : (h : HierarchyLists) (marks : List Bool) (place : ℕ) → IsFallAt h marks place → has_mark marks (entry_at h.entries place).from ≡ true
leaves_marked h marks place (within, fell) = (both _ _ (both (has_mark marks (entry_at h.entries place).to) _ fell).1).0

-- ---- chains

-- a fall more leaves the chains as they are
chain_stays : (all : List ChainedFall) (one : ChainedFall) (number : ℕ) (falls : List Fall) → IsChain all number falls → IsChain (all ++ one ∷ []) number falls
chain_stays all one number [] none = none
chain_stays all one number (fall ∷ falls) (some, within, is, next, more) =
    let same : chained_at (all ++ one ∷ []) number ≡ chained_at all number = get_or_append_left all (one ∷ []) (chained_at [] 0) (number - 2) (omega arith) in
    rw same (some, omega (arith, length_push all one), is, next, chain_stays all one (chained_at all number).next falls more)

pub chain_within : (all : List ChainedFall) (number : ℕ) (falls : List Fall) → IsChain all number falls → number ≤ length all + 1
chain_within all number [] none = omega (arith, none)
chain_within all number (fall ∷ falls) chain = chain.1

pub chain_ended : (all : List ChainedFall) (number : ℕ) (falls : List Fall) → IsChain all number falls → number ≤ 1 → falls ≡ []
chain_ended all number [] chain low = refl
chain_ended all number (fall ∷ falls) chain low = absurd (let some = chain.0 in omega arith)

-- before the others it is the first of their chain
chain_begins : (all : List ChainedFall) (next : ℕ) (fall : Fall) (falls : List Fall) → IsChain all next falls → IsChain (all ++ record { fall = fall; next = next } ∷ []) (length all + 2) (fall ∷ falls)
chain_begins all next fall falls chain =
    let one : ChainedFall = record { fall = fall; next = next } in
    let here : chained_at (all ++ one ∷ []) (length all + 2) ≡ one = get_or_push all one (chained_at [] 0) (length all + 2 - 2) (omega arith) in
    rw here (omega arith, omega (arith, length_push all one), refl, omega (arith, chain_within all next falls chain), chain_stays all one next falls chain)

pub chains_none : (h : HierarchyLists) (first : List ℕ) → HasNoFalls first → AreChains h [] [] first
chains_none h first none v = none v

pub chains_more : (h : HierarchyLists) (place : ℕ) (places : List ℕ) (all : List ChainedFall) (first : List ℕ) → (entry_at h.entries place).from < length first → AreChains h places all first
    → AreChains h (place ∷ places) (all ++ record { fall = fall_at h place; next = get_or first (entry_at h.entries place).from 0 } ∷ []) (set first (entry_at h.entries place).from (length all + 2))
chains_more h place places all first leaves chains v = by_node (nat_eq u v) refl
  where
    u : ℕ
    u = (entry_at h.entries place).from

    one : ChainedFall
    one = record { fall = fall_at h place; next = get_or first u 0 }

    by_node : (b : Bool) → nat_eq u v ≡ b → IsChain (all ++ one ∷ []) (get_or (set first u (length all + 2)) v 0) (map (fall_at h) (cond b (place ∷ places_from h places v) (places_from h places v)))
    by_node false e =
        let same = get_or-set_other first u v (length all + 2) 0 (λ is. eqb-false u v e (sym is)) in
        rw same (chain_stays all one (get_or first v 0) (map (fall_at h) (places_from h places v)) (chains v))
    by_node true e =
        let is = eqb-true u v e in
        subst (λ w. IsChain (all ++ one ∷ []) (get_or (set first u (length all + 2)) w 0) (fall_at h place ∷ map (fall_at h) (places_from h places w))) is
        (rw (get_or-set_same first u (length all + 2) 0 leaves) (chain_begins all (get_or first u 0) (fall_at h place) (map (fall_at h) (places_from h places u)) (chains u)))

-- ---- the chains of all falls

abbrev Ascends : List ℕ → Type 0
Ascends = AllPairs (λ j k. j < k)

pub first_or_later : (x : ℕ) (xs : List ℕ) (v : ℕ) → Contains (x ∷ xs) v → (x ≡ v) ⊎ Contains xs v
first_or_later x xs v (zero, lt, is) = inl is
first_or_later x xs v (suc k, lt, is) = inr (k, (omega arith), is)

first_least : (x : ℕ) (xs : List ℕ) → Ascends (x ∷ xs) → (v : ℕ) → Contains (x ∷ xs) v → x ≤ v
first_least x xs up v (zero, lt, is) = omega (arith, is)
first_least x xs up v (suc k, lt, is) = omega (arith, up zero (suc k) v (omega arith) lt, is)

-- two ascending lists with the same numbers are one
same_numbers : (xs ys : List ℕ) → Ascends xs → Ascends ys → ((v : ℕ) → Contains xs v → Contains ys v) → ((v : ℕ) → Contains ys v → Contains xs v) → xs ≡ ys
same_numbers [] [] up above there back = refl
same_numbers [] (y ∷ ys) up above there back = (let h = back y (0, (omega arith), refl) in absurd (omega (arith, h.1)))
same_numbers (x ∷ xs) [] up above there back = (let h = there x (0, (omega arith), refl) in absurd (omega (arith, h.1)))
same_numbers (x ∷ xs) (y ∷ ys) up above there back =
    let same : x ≡ y = omega (arith, first_least y ys above x (there x (0, (omega arith), refl)), first_least x xs up y (back y (0, (omega arith), refl))) in
    ap (λ z. z ∷ xs) same ∙ ap (λ zs. y ∷ zs) (same_numbers xs ys (tail x xs up) (tail y ys above) (tails x y xs ys same up there) (tails y x ys xs (sym same) above back))
  where
    tail : (z : ℕ) (zs : List ℕ) → Ascends (z ∷ zs) → Ascends zs
    tail z zs up i j d lt within = up (suc i) (suc j) d (omega arith) (omega arith)

    tails : (a b : ℕ) (xs ys : List ℕ) → a ≡ b → Ascends (a ∷ xs) → ((v : ℕ) → Contains (a ∷ xs) v → Contains (b ∷ ys) v) → (v : ℕ) → Contains xs v → Contains ys v
    tails a b xs ys same up there v (k, lt, is) = by_first (there v (suc k, (omega arith), is))
      where
        by_first : Contains (b ∷ ys) v → Contains ys v
        by_first (zero, inside, first) = (let below = up zero (suc k) v (omega arith) (omega arith) in absurd (omega (arith, below, is, first, same)))
        by_first (suc m, inside, later) = (m, (omega arith), later)

filter_has : (p : ℕ → Bool) (xs : List ℕ) (v : ℕ) → Contains xs v → p v ≡ true → Contains (filter p xs) v
filter_has p xs v (k, lt, is) pass =
    let parts : xs ≡ take k xs ++ v ∷ drop (k + 1) xs = sym (take-append-drop k xs) ∙ ap (λ ys. take k xs ++ ys) (drop_more xs k v lt ∙ ap (λ x. x ∷ drop (k + 1) xs) is) in
    let kept : filter p xs ≡ filter p (take k xs) ++ v ∷ filter p (drop (k + 1) xs) = ap (filter p) parts ∙ filter-append p (take k xs) (v ∷ drop (k + 1) xs) ∙ rw pass refl in
    rw kept (Contains-append_right (filter p (take k xs)) (v ∷ filter p (drop (k + 1) xs)) v (0, (omega arith), refl))

range_has : (a n k : ℕ) → a ≤ k → k < a + n → Contains (range_with_len a n) k
range_has a n k low high = (k - a, omega (arith, length-range_with_len a n), get_or-range_with_len a n (k - a) k (omega arith) ∙ omega arith)

module _ (h : HierarchyLists) (rules : IsHierarchy h) (marks : List Bool) (places : List ℕ) (falls : AreFallsByEnd h marks places) where
  -- those that leave a node are the falls among its entries
  falls_of : (v : ℕ) → places_from h places v ≡ filter (λ place. is_fall h marks (entry_at h.entries place)) (range_with_len (first_entry h v) (entries_at h v))
  falls_of v =
      same_numbers (places_from h places v) (filter fell range)
      (λ i j d before within. AllPairs-filter (λ j k. (entry_at h.entries j).from ≡ (entry_at h.entries k).from → j < k) leaves places falls.in_turn i j d before within
      (eqb-true _ _ (filter_passes leaves places i d (omega arith)) ∙ sym (eqb-true _ _ (filter_passes leaves places j d within))))
      (AllPairs-filter (λ j k. j < k) fell range (range_ascends begin count))
      (λ k there. (let (within, pass) = All-contains (IsFallAt h marks) _ k (All-filter leaves (IsFallAt h marks) places falls.each) there in
      let inside = from.all k (entry_at h.entries k) (slice_get-get_or h.entries k no_entry within) (eqb-true _ _ (All-contains (λ j. leaves j ≡ true) _ k (filter_passes leaves places) there)) in
      filter_has fell range k (range_has begin count k inside.0 (omega (arith, inside.1, from.in_order))) pass))
      (λ k there. (let (low, high) = All-contains (λ j. (begin ≤ j) × (j < begin + count)) _ k (All-filter fell (λ j. (begin ≤ j) × (j < begin + count)) range (range_within begin count)) there in
      let within : k < length h.entries = omega (arith, high, from.within, from.in_order) in
      filter_has leaves places k (falls.all k (within, All-contains (λ j. fell j ≡ true) _ k (filter_passes fell range) there))
      (eq-eqb _ _ (from.inside k (entry_at h.entries k) low (omega (arith, high, from.in_order)) (slice_get-get_or h.entries k no_entry within)))))
    where
      begin : ℕ
      begin = first_entry h v

      count : ℕ
      count = entries_at h v

      range : List ℕ
      range = range_with_len begin count

      leaves : ℕ → Bool
      leaves place = nat_eq (entry_at h.entries place).from v

      fell : ℕ → Bool
      fell place = is_fall h marks (entry_at h.entries place)

      from : AreFrom h.entries v begin (first_entry h (v + 1))
      from = are_from h.entries (from_rises h.entries rules.entries_ascend) v

  pub has_falls : (all : List ChainedFall) (first : List ℕ) → AreChains h places all first → HasFalls h marks all first
  has_falls all first chains v = subst (λ ks. IsChain all (get_or first v 0) (map (fall_at h) ks)) (falls_of v) (chains v)

-- ---- along a chain

-- each is at one of the places
pub falls_within : (h : HierarchyLists) (marks : List Bool) (first count : ℕ) → All (IsFallFrom first count) (falls_from h marks first count)
falls_within h marks first count =
    All-map (IsFallFrom first count) (fall_at h) _ (All-filter (λ place. is_fall h marks (entry_at h.entries place)) (λ k. IsFallFrom first count (fall_at h k)) (range_with_len first count)
    (λ i d lt. (let (low, high) = range_within first count i d lt in record { low = low; high = high })))

-- the falls before one with a number and 2 are appended as ways, and with the others they are the whole
pub record AreAppended (all : List ChainedFall) (as_way : Fall → Way) (first count : ℕ) (whole ways : List Way) (number : ℕ) : Type 0 where
  pub left : List Fall
  pub chain : IsChain all number left
  pub within : All (IsFallFrom first count) left
  pub ways_are : ways ++ map as_way left ≡ whole

module _ (all : List ChainedFall) (as_way : Fall → Way) (first count : ℕ) (whole ways : List Way) (number : ℕ) (so_far : AreAppended all as_way first count whole ways number) where
  -- the next fall, if there is one
  pub record IsNext (one : ChainedFall) : Type 0 where
    pub within : IsFallFrom first count one.fall
    pub less : one.next < number
    pub far : AreAppended all as_way first count whole (ways ++ as_way one.fall ∷ []) one.next

  pub next_appended : 1 < number → (one : ChainedFall) → one ≡ get_or all (number - 2) one → IsNext one
  next_appended some one here = by_list so_far.left so_far.chain so_far.within so_far.ways_are
    where
      by_list : (left : List Fall) → IsChain all number left → All (IsFallFrom first count) left → ways ++ map as_way left ≡ whole → IsNext one
      by_list [] none within are = absurd (omega (arith, none))
      by_list (fall ∷ left) (low, there, is, less, chain) within are =
          subst IsNext (get_or_default all (number - 2) (chained_at [] 0) one (omega arith) ∙ sym here) (record {
            within = subst (IsFallFrom first count) (sym is) (All-head (IsFallFrom first count) fall left within);
            less = less;
            far = record {
              left = left;
              chain = chain;
              within = All-tail (IsFallFrom first count) fall left within;
              ways_are = append_assoc ways (as_way (chained_at all number).fall ∷ []) (map as_way left) ∙ ap (λ (one : Fall). ways ++ as_way one ∷ map as_way left) is ∙ are;
            };
          })

  pub all_appended : number ≤ 1 → ways ≡ whole
  all_appended none = by_list so_far.left so_far.chain so_far.ways_are
    where
      by_list : (left : List Fall) → IsChain all number left → ways ++ map as_way left ≡ whole → ways ≡ whole
      by_list [] end are = sym (append-nil ways) ∙ are
      by_list (fall ∷ left) chain are = absurd (let low = chain.0 in omega arith)
