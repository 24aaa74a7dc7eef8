-- The entries that are visited are those that matter.
use Rattle.plan_base.proofs.Common.{◌≡◌, ℕ, ◌+◌, ◌<◌, below_more, ◌≤◌, ◌⊎◌, inl, inr, ◌||◌, ◌&&◌, true, false, List, length, get_or, Some, None, is_some, refl, ◌∙◌, ap, subst, sym, arith, All, Option, MatchOption, HoldsAt, false≢true, cases_lt, cases_eq, lt-ltb, get_or_default, slice_get-get_or}
use Rattle.search_laws.specs.{HoldsBelow}
use Rattle.hierarchy.specs.{Entry, HierarchyLists, height_in, ArePlaces, AreFrom, FallsTo, entry_at, no_entry, RisesFrom, is_rise, is_core, ArePairAt, PairIsBridged, PairsAreBridged, NodeIsBridged, FailsFirst}
use Rattle.hierarchy.proofs.HeightLemmas.{height_is, height_least}
use Rattle.hierarchy_check.specs.inside.{FirstUnbridgedAt, RiseIsBridged}

-- ---- entries from the node

module _ (h : HierarchyLists) (x : ℕ) (a : Entry) (low high : ℕ) (are : AreFrom h.entries x low high) where
  -- an entry that is not in the range is none from x
  pub not_from : (k : ℕ) → k < length h.entries → (k < low) ⊎ (high ≤ k) → HoldsAt (PairIsBridged h x a) h.entries k
  not_from k lt out d pair = elim out [
    | inl before ↦ absurd (omega (arith, (there d pair).0))
    | inr after ↦ absurd (omega (arith, (there d pair).1))
  ] where
    there : (d : Entry) → ArePairAt h x a (get_or h.entries k d) → (low ≤ k) × (k < high)
    there d pair = are.all k (get_or h.entries k d) (slice_get-get_or h.entries k d lt) pair.from_x

  pub before_range : HoldsBelow low (HoldsAt (PairIsBridged h x a) h.entries)
  before_range k lt = not_from k (omega (arith, are.in_order, are.within)) (inl lt)

  pub whole_range : (by : ℕ) → high ≤ by → HoldsBelow by (HoldsAt (PairIsBridged h x a) h.entries) → PairsAreBridged h x a
  whole_range by le before k d lt = elim (cases_lt k by) [
    | inl lower ↦ before k lower d
    | inr higher ↦ not_from k lt (inr (omega arith)) d
  ]

-- where an entry to the node is bridged with all that lead up from there, it is with all
pub rises_bridge : (h : HierarchyLists) (x : ℕ) (a : Entry) (places : List ℕ) → ArePlaces (RisesFrom h.order x) h.entries places
    → ((i : ℕ) → i < length places → RiseIsBridged h x a (entry_at h.entries (get_or places i 0))) → PairsAreBridged h x a
rises_bridge h x a places are each k d lt pair =
    let e = get_or h.entries k d in
    let higher : height_in h.order e.from < height_in h.order e.to = subst (λ y. height_in h.order y < height_in h.order e.to) (sym pair.from_x) pair.end_above in
    let up : is_rise h.order e ≡ true = ap (λ b. b || (is_core h.order e.from && is_core h.order e.to)) (lt-ltb (height_in h.order e.from) (height_in h.order e.to) higher) in
    let found = are.all k e (slice_get-get_or h.entries k d lt) (record { begins = pair.from_x; leads = up }) in
    let place : get_or places found.0 0 ≡ k = get_or_default places found.0 0 k found.1 ∙ found.2 in
    let here : entry_at h.entries (get_or places found.0 0) ≡ e = ap (entry_at h.entries) place ∙ get_or_default h.entries k no_entry d lt in
    subst (RiseIsBridged h x a) here (each found.0 found.1) (λ same. pair.differ (sym same))

-- ---- entries to the node

-- the entries at the first so many places are bridged
abbrev pub BridgedSoFar : HierarchyLists → ℕ → List ℕ → ℕ → Type 0
BridgedSoFar h x places j = (i d : ℕ) → i < j → HoldsAt (PairsAreBridged h x) h.entries (get_or places i d)

module _ (h : HierarchyLists) (x : ℕ) (places : List ℕ) (are : ArePlaces (FallsTo h.order x) h.entries places) where
  -- so are all entries that stand before the next place
  pub all_before : (j k : ℕ) → j ≤ length places → BridgedSoFar h x places j → k < length h.entries → ((d : ℕ) → j < length places → k < get_or places j d) → HoldsAt (PairsAreBridged h x) h.entries k
  all_before j k le so_far lt before d i e inside pair =
      let there = are.all k (get_or h.entries k d) (slice_get-get_or h.entries k d lt) (record { ends = pair.to_x; above = pair.start_above }) in
      at_place there.0 there.1 there.2 d i e inside pair
    where
      at_place : (i : ℕ) → i < length places → get_or places i k ≡ k → (d : Entry) → PairsAreBridged h x (get_or h.entries k d)
      at_place i inside is d = elim (cases_lt i j) [
        | inl earlier ↦ subst (λ p. PairsAreBridged h x (get_or h.entries p d)) is (so_far i k earlier d)
        | inr later ↦ absurd (late i inside is later)
      ] where
        late : (i : ℕ) → i < length places → get_or places i k ≡ k → j ≤ i → ⊥
        late i inside is later = elim (cases_eq j i) [
          | inl same ↦ (let next = before k (omega arith) in let here : get_or places j k ≡ k = ap (λ p. get_or places p k) same ∙ is in omega arith)
          | inr apart ↦ (let next = before k (omega arith) in let up = are.ascending j i k (omega (arith, apart)) inside in omega arith)
        ]

  pub node_bridged : (j : ℕ) → length places ≤ j → j ≤ length places → BridgedSoFar h x places j → NodeIsBridged h x
  node_bridged j ge le so_far k d lt = all_before j k le so_far lt (λ e h. absurd (omega arith)) d

  pub more_so_far : (j at : ℕ) → at ≡ get_or places j at → j < length places → BridgedSoFar h x places j → HoldsAt (PairsAreBridged h x) h.entries at → BridgedSoFar h x places (j + 1)
  more_so_far j at is inside so_far holds i d lt = elim (cases_lt i j) [
    | inl earlier ↦ so_far i d earlier
    | inr later ↦ (let same : j ≡ i = omega arith in
        subst (HoldsAt (PairsAreBridged h x) h.entries) (is ∙ get_or_default places j at d inside ∙ ap (λ p. get_or places p d) same) holds)
  ]

  -- an entry to x at the next place, and the first entry from x that is not bridged with it
  pub first_unbridged_at : (j at by : ℕ) (d : Entry) → at ≡ get_or places j at → j < length places → at < length h.entries → BridgedSoFar h x places j
      → FailsFirst (PairIsBridged h x (get_or h.entries at d)) h.entries by → FirstUnbridgedAt h x at by
  first_unbridged_at j at by d is inside within so_far fails = record {
    first = get_or h.entries at d;
    first_is = slice_get-get_or h.entries at d within;
    entry_fails = record {
      place = within;
      fails = λ holds. fails.fails (λ e. holds d by e fails.place);
      before = λ k lt. all_before j k (omega arith) so_far (omega arith) (λ e h. let here = get_or_default places j at e inside in omega arith);
    };
    pair_fails = fails;
  }

-- ---- nodes of the order

-- the nodes below x that are lower than this place are bridged, and the node at it, if there is one, is not
pub record LowestSoFar (h : HierarchyLists) (x lowest : ℕ) : Type 0 where
  pub within : lowest ≤ length h.order
  pub before : (y : ℕ) → y < x → height_in h.order y < lowest → NodeIsBridged h y
  pub fails : lowest < length h.order → HoldsAt (NodeIsBridged h) h.order lowest → ⊥

module _ (h : HierarchyLists) (x lowest : ℕ) (so_far : LowestSoFar h x lowest) where
  pub lowest_kept : (height_in h.order x < lowest → NodeIsBridged h x) → LowestSoFar h (x + 1) lowest
  lowest_kept here = record {
    within = so_far.within;
    before = below_more (λ y. height_in h.order y < lowest → NodeIsBridged h y) x so_far.before here;
    fails = so_far.fails;
  }

  pub lowest_here : height_in h.order x < lowest → (NodeIsBridged h x → ⊥) → LowestSoFar h (x + 1) (height_in h.order x)
  lowest_here lower fails = record {
    within = omega arith;
    before = below_more (λ y. height_in h.order y < height_in h.order x → NodeIsBridged h y) x
        (λ y lt low. so_far.before y lt (omega arith)) (λ low. absurd (omega arith));
    fails = λ lt holds. fails (subst (NodeIsBridged h) (height_is h.order x 0 lt) (holds 0));
  }

  -- past all nodes, those at all lower places are bridged
  pub lowest_of_all : (nodes : ℕ) → nodes ≤ x → All (λ v. v < nodes) h.order → HoldsBelow lowest (HoldsAt (NodeIsBridged h) h.order)
  lowest_of_all nodes le below k lt d =
      let inside : k < length h.order = omega (arith, so_far.within) in
      so_far.before (get_or h.order k d) (omega (arith, below k d inside)) (omega (arith, height_least h.order (get_or h.order k d) k d inside refl))

-- what was found at a node tells whether it is bridged
module _ (h : HierarchyLists) (x : ℕ) where
  pub bridged_at : (found : Option (ℕ × ℕ)) → MatchOption found (NodeIsBridged h x) (λ pair. FirstUnbridgedAt h x pair.0 pair.1) → is_some found ≡ false → NodeIsBridged h x
  bridged_at (Some pair) fails e = absurd (false≢true (sym e))
  bridged_at None bridged e = bridged

  pub unbridged_at : (found : Option (ℕ × ℕ)) → MatchOption found (NodeIsBridged h x) (λ pair. FirstUnbridgedAt h x pair.0 pair.1) → is_some found ≡ true → NodeIsBridged h x → ⊥
  unbridged_at (Some pair) fails e holds = fails.entry_fails.fails (λ d. holds pair.0 d fails.entry_fails.place)
  unbridged_at None bridged e holds = false≢true e
