-- Climbs over entries that lead up, place by place.
use Rattle.plan_base.proofs.Common.{◌≡◌, ◌∙◌, ℕ, ◌+◌, ◌*◌, ◌/◌, ◌<◌, ◌≤◌, inl, inr, true, List, [], ◌∷◌, ◌++◌, length, map, get_or, take, refl, sym, ap, subst, arith, if◌then◌else◌, All, below_more, cases_eq, subst₂, All-contains, All-more, All-nil, All-push, All-weaker, Contains, Contains-get_or, Contains-append_left, Contains-push, slice_index}
use Rattle.search_laws.specs.{Leg}
use Rattle.hierarchy.specs.{Hop, HierarchyLists, IsAbove, IsContracted, IsHierarchy, IsRiseOf, Rise, entry_at, has_legs, height_in, leg_of, legs_from, no_entry, rises_of}
use Rattle.hierarchy.proofs.{HeightLemmas.height_most, HopLemmas.hops_then, HopLemmas.total-append, RiseLemmas.are_rises_from}
use Rattle.sweeps.specs.{time_at, leg_by}
use Rattle.sweeps.proofs.EntryLemmas.{Contains-from_map, entry_leg, has_entry}
use Rattle.rounds.specs.inside.{never, IsRowLowered, ClimbsTo, HasClimb, Climb, AreClimbs, AreClimbDelays, IsClimbedBehind, IsPassed, IsClimbedFrom, AreClimbedAll, AreClimbsOf}
use Rattle.rounds.proofs.ArcLemmas.{leads_up_rises}
use Rattle.rounds.proofs.RowLemmas.{row_then, row_weaker}

-- ---- legs

-- nothing is above a node that is not contracted
pub core_ends : (h : HierarchyLists) (u v w : ℕ) → (IsContracted h.order u → ⊥) → ClimbsTo h u v w → ⊥
core_ends h u v w core (entry, above) = core (omega (arith, above, height_most h.order v))

-- a leg of a contracted node is an entry that leads up
pub leg_climbs : (h : HierarchyLists) → IsHierarchy h → has_legs h ≡ true → (u : ℕ) (leg : Leg) → IsContracted h.order u → Contains (legs_from h u) leg → ClimbsTo h u (leg.to / 2) leg.ms
leg_climbs h rules short u leg low there =
    let found = Contains-from_map leg_of (rises_of h u) leg (subst (λ b. Contains (if b then map leg_of (rises_of h u) else []) leg) short there) in
    let are = are_rises_from h rules u in
    let rise = found.0 in
    let is = All-contains (IsRiseOf h.order h.entries) (rises_of h u) rise are.each found.1 in
    let from : rise.from ≡ u = All-contains (λ (r : Rise). r.from ≡ u) (rises_of h u) rise are.from_u found.1 in
    let half : rise.to ≡ leg.to / 2 = omega (arith, ap (λ (l : Leg). l.to) found.2) in
    let e = entry_at h.entries rise.place in
    let begins : e.from ≡ u = is.begins no_entry ∙ from in
    let ends : e.to ≡ leg.to / 2 = is.ends no_entry ∙ half in
    let weighs : e.weight ≡ leg.ms = is.weighs no_entry ∙ ap (λ (l : Leg). l.ms) found.2 in (
      has_entry h.entries e u (leg.to / 2) leg.ms (Contains-get_or h.entries rise.place no_entry is.within) begins ends weighs,
      elim (leads_up_rises h e.from e.to (is.leads no_entry)) [
        | inl above ↦ subst (λ x. IsAbove h.order (leg.to / 2) x) begins (subst (λ x. IsAbove h.order x e.from) ends above)
        | inr core ↦ absurd (omega (arith, low, core.0, ap (height_in h.order) begins))
      ],
    )

-- ---- passing a place

-- what is climbed to stays so where delays are less
pub behind_stays : (nodes now next : List ℕ) (i v t : ℕ) → ((j : ℕ) → time_at next j ≤ time_at now j) → IsClimbedBehind nodes now i v t → IsClimbedBehind nodes next i v t
behind_stays nodes now next i v t less is = record {
  place = is.place;
  behind = is.behind;
  within = is.within;
  is = is.is;
  some = omega (arith, is.some, less is.place);
  by = omega (arith, is.by, less is.place);
}

-- the node of a leg stands behind place i, and is climbed to by then
abbrev pub IsLed : List ℕ → ℕ → ℕ → List ℕ → Leg → Type 0
IsLed nodes i delay delays leg = IsClimbedBehind nodes delays i (leg.to / 2) (delay + leg.ms)

module _ (h : HierarchyLists) (nodes : List ℕ) (i : ℕ) where
  -- delays up to the place from which it is climbed stay
  pub place_stays : (old new : List ℕ) → IsRowLowered (IsClimbedFrom h nodes old i) old new → (j : ℕ) → j ≤ i → time_at new j ≡ time_at old j
  place_stays old new lowered j le = elim (lowered.by j) [
    | inl stays ↦ stays
    | inr from ↦ absurd (omega (arith, from.behind, le))
  ]

  module _ (rules : IsHierarchy h) (short : has_legs h ≡ true) (u delay : ℕ) (here : slice_index nodes i ≡ u) (some : delay < never) where
    -- one leg more, which leads to place j
    module _ (low : IsContracted h.order u) (k : ℕ) (d : Leg) (lt : k < length (legs_from h u)) (j later : ℕ) (behind : i < j) (is : slice_index nodes j ≡ (get_or (legs_from h u) k d).to / 2)
        (at : later ≡ delay + (get_or (legs_from h u) k d).ms) (old now next : List ℕ) (was : time_at old i ≡ delay) (more : IsRowLowered (λ x t. (x ≡ j) × (t ≡ later)) now next) where
      abbrev this : Leg
      this = get_or (legs_from h u) k d

      -- it climbs there
      this_climbs : ClimbsTo h (slice_index nodes i) (slice_index nodes j) this.ms
      this_climbs = subst₂ (λ x y. ClimbsTo h x y this.ms) (sym here) (sym is) (leg_climbs h rules short u this low (Contains-get_or (legs_from h u) k d lt))

      -- what is lowered by it is so by a climb from the place
      pub lowered_more : IsRowLowered (IsClimbedFrom h nodes old i) old now → IsRowLowered (IsClimbedFrom h nodes old i) old next
      lowered_more lowered =
          row_then (IsClimbedFrom h nodes old i) old now next lowered
          (row_weaker (λ x t. (x ≡ j) × (t ≡ later)) (IsClimbedFrom h nodes old i) now next (λ x t p. subst (λ y. IsClimbedFrom h nodes old i y t) (sym p.0) (record {
            behind = behind;
            weight = this.ms;
            climbs = this_climbs;
            from = omega (arith, was, some);
            at = omega (arith, p.1, at, was);
          })) more)

      -- and the node of the leg is climbed to then, as those before
      pub passed_more : j < length nodes → later < never → time_at next j ≤ later → All (IsLed nodes i delay now) (take k (legs_from h u)) → All (IsLed nodes i delay next) (take (k + 1) (legs_from h u))
      passed_more within fits by passed =
          All-more (IsLed nodes i delay next) (legs_from h u) k d lt
          (All-weaker (IsLed nodes i delay now) (IsLed nodes i delay next) (λ leg led. behind_stays nodes now next i (leg.to / 2) (delay + leg.ms) more.no_later led) (take k (legs_from h u)) passed)
          (record { place = j; behind = behind; within = within; is = is; some = omega (arith, by, fits); by = omega (arith, by, at) })

    -- a place is passed where all legs from there lead behind it
    pub passed_legs : (new : List ℕ) → time_at new i ≡ delay → All (IsLed nodes i delay new) (legs_from h u) → IsPassed h nodes new i
    passed_legs new was all v w less climbs =
        let climb = subst (λ x. ClimbsTo h x v w) here climbs in
        let led = All-contains (IsLed nodes i delay new) (legs_from h u) (leg_by (2 * v) w) all (entry_leg h rules short u v w climb.0 climb.1) in
        record {
          place = led.place;
          behind = led.behind;
          within = led.within;
          is = omega (arith, led.is);
          some = led.some;
          by = omega (arith, led.by, was);
        }

-- ---- listing

-- the climb to the node of a place
abbrev pub climb_at : List ℕ → List ℕ → ℕ → Climb
climb_at nodes delays i = record { node = slice_index nodes i; ms = time_at delays i }

abbrev pub IsClimbAt : List ℕ → List ℕ → Climb → Type 0
IsClimbAt nodes delays climb = (i : ℕ) × (i < length nodes) × (time_at delays i < never) × (climb ≡ climb_at nodes delays i)

-- these are the climbs to the first so many places
pub record AreClimbsBelow (nodes delays : List ℕ) (count : ℕ) (climbs : List Climb) : Type 0 where
  pub are : All (IsClimbAt nodes delays) climbs
  pub all : (i : ℕ) → i < count → time_at delays i < never → Contains climbs (climb_at nodes delays i)

module _ (nodes delays : List ℕ) where
  -- in the beginning there is none
  pub none_below : AreClimbsBelow nodes delays 0 []
  none_below = record { are = All-nil (IsClimbAt nodes delays); all = λ i lt less. absurd (omega (arith, lt)) }

  module _ (count : ℕ) (climbs : List Climb) (before : AreClimbsBelow nodes delays count climbs) where
    -- one more, where there is a delay
    pub climb_more : (climb : Climb) → count < length nodes → time_at delays count < never → climb ≡ climb_at nodes delays count → AreClimbsBelow nodes delays (count + 1) (climbs ++ climb ∷ [])
    climb_more climb lt less is = record {
      are = All-push (IsClimbAt nodes delays) climbs climb before.are (count, lt, less, is);
      all = below_more (λ i. time_at delays i < never → Contains (climbs ++ climb ∷ []) (climb_at nodes delays i)) count
          (λ i lt less. Contains-append_left climbs (climb ∷ []) (climb_at nodes delays i) (before.all i lt less)) (λ less. subst (Contains (climbs ++ climb ∷ [])) is (Contains-push climbs climb));
    }

    -- and none, where there is none
    pub climb_passes : never ≤ time_at delays count → AreClimbsBelow nodes delays (count + 1) climbs
    climb_passes none = record {
      are = before.are;
      all = below_more (λ i. time_at delays i < never → Contains climbs (climb_at nodes delays i)) count before.all (λ less. absurd (omega (arith, none, less)));
    }

-- ---- passing all places

-- a climb that goes on
pub climb_then : (h : HierarchyLists) (s u v t w : ℕ) → HasClimb h s u t → ClimbsTo h u v w → HasClimb h s v (t + w)
climb_then h s u v t w climb on =
    let hop : Hop = record { to = v; weight = w } in
    record {
      hops = climb.hops ++ hop ∷ [];
      walk = hops_then (ClimbsTo h) climb.hops (hop ∷ []) s u v climb.walk (on, refl);
      weighs = omega (arith, total-append climb.hops (hop ∷ []), climb.weighs);
    }

module _ (h : HierarchyLists) (start : ℕ) (nodes : List ℕ) where
  module _ (i : ℕ) (within : i < length nodes) (old new : List ℕ) (lowered : IsRowLowered (IsClimbedFrom h nodes old i) old new) where
    -- where one place is passed, delays are still those of climbs
    pub delays_on : AreClimbDelays h start nodes old → AreClimbDelays h start nodes new
    delays_on are = record {
      as_many = lowered.as_many ∙ are.as_many;
      some = are.some;
      first = are.first;
      own = omega (arith, are.own, lowered.no_later 0);
      climbs = λ j lt less. elim (lowered.by j) [
        | inl stays ↦ subst (HasClimb h start (slice_index nodes j)) (sym stays) (are.climbs j lt (omega (arith, stays, less)))
        | inr from ↦ subst (HasClimb h start (slice_index nodes j)) (sym from.at)
            (climb_then h start (slice_index nodes i) (slice_index nodes j) (time_at old i) from.weight (are.climbs i within from.from) from.climbs)
      ];
    }

    -- and the places before it are still passed
    pub passed_stays : (j : ℕ) → j < i → IsPassed h nodes old j → IsPassed h nodes new j
    passed_stays j lt passed v w less climbs =
        let stays = place_stays h nodes i old new lowered j (omega (arith, lt)) in
        subst (IsClimbedBehind nodes new j v) (ap (λ t. t + w) (sym stays))
        (behind_stays nodes old new j v (time_at old j + w) lowered.no_later (passed v w (omega (arith, stays, less)) climbs))

    -- so one more is passed
    pub passed_one_more : ((j : ℕ) → j < i → IsPassed h nodes old j) → IsPassed h nodes new i → (j : ℕ) → j < i + 1 → IsPassed h nodes new j
    passed_one_more before here = below_more (λ j. IsPassed h nodes new j) i (λ j lt. passed_stays j lt (before j lt)) here

  -- in the beginning there is the empty climb alone
  pub delays_first : (delays : List ℕ) → length delays ≡ length nodes → 0 < length nodes → slice_index nodes 0 ≡ start → time_at delays 0 ≡ 0 → ((j : ℕ) → 0 < j → j < length nodes → time_at delays j ≡ never) → AreClimbDelays h start nodes delays
  delays_first delays as_many some first own others = record {
    as_many = as_many;
    some = some;
    first = first;
    own = omega (arith, own);
    climbs = λ j lt less. elim (cases_eq j 0) [
      | inl is ↦ record { hops = []; walk = ap (slice_index nodes) is ∙ first; weighs = sym own ∙ ap (time_at delays) (sym is) }
      | inr other ↦ absurd (omega (arith, others j (omega (arith, other)) lt, less))
    ];
  }

  -- what is listed then
  pub climbs_listed : (delays : List ℕ) (climbs : List Climb) → AreClimbedAll h start nodes delays → AreClimbsOf nodes delays climbs → AreClimbs h start climbs
  climbs_listed delays climbs all listed = record {
    are = All-weaker (IsClimbAt nodes delays) (λ (climb : Climb). HasClimb h start climb.node climb.ms)
        (λ climb (i, lt, less, is). subst (λ (c : Climb). HasClimb h start c.node c.ms) (sym is) (all.are.climbs i lt less)) climbs listed.are;
    own = (climb_at nodes delays 0, listed.all 0 all.are.some (omega (arith, all.are.own)), all.are.first, all.are.own);
    further = λ climb v w there climbs_on.
        let found = All-contains (IsClimbAt nodes delays) climbs climb listed.are there in
        let i = found.0 in
        let is : climb ≡ climb_at nodes delays i = found.3 in
        let behind = all.passed i found.1 v w found.2 (subst (λ (c : Climb). ClimbsTo h c.node v w) is climbs_on) in
        (climb_at nodes delays behind.place, listed.all behind.place behind.within behind.some, behind.is, omega (arith, behind.by, ap (λ (c : Climb). c.ms) is));
  }
