-- What a search for many targets notes is right, and tells all in the end.
use Rattle.plan_base.proofs.Common.{◌≡◌, ◌≢◌, ℕ, zero, suc, ◌+◌, ◌-◌, ◌^◌, ◌<◌, ◌≤◌, ◌⊎◌, min, nat_lt, cond, inl, inr, Bool, true, false, List, map, [], ◌∷◌, length, set, replicate, Some, None, refl, sym, ◌∙◌, ap, subst, arith, Option, IsTrue, Contains, slice_get, slice_index, slice_index_or, cases_eq, cases_lt, ltb-true, ltb-false, false≢true, get_or-replicate, get_or-set_same, get_or-set_other, get_or_past, get_or-map, length-map, length-replicate, Contains-push, Contains-push_cases}
use Rattle.search_laws.specs.{GraphMeaning, LabelsMeaning, ArrivesAt, RunRides, GivenRuns}
use Rattle.product_search.specs.{declared.frontier.Scan.Scan, declared.frontier.Frontier.Frontier, declared.targets.Noted.Noted, IsReachedAt, IsArrivalAt, AreArrivals, inside.IsPlaced, inside.ArePlaces, inside.time_by, inside.time_of, inside.AreReached, inside.earlier, inside.IsNoted, inside.IsEndNoted, inside.IsNotedBy, inside.IsEndNotedBy, inside.IsArrivalBy, inside.AreNoted, inside.AreAllTimes, inside.IsSearching, inside.IsScanning, inside.IsSearched, inside.rows, inside.IsWanted, inside.Takes, inside.AreGivenReached}
use Rattle.product_search.proofs.{GivenLemmas.given_stays, StepLemmas.takes_scanning, StepLemmas.scanning_weaker, StepLemmas.scanning_until, StepLemmas.scanning_reached, ReachLemmas.row_wanted, ReachLemmas.wanted_down}

-- ---- places

-- one node more has its place
pub places_more : (nodes old new : List ℕ) (k : ℕ) → ArePlaces nodes old k → ((v : ℕ) → slice_index new v ≡ slice_index old v) → slice_index nodes k < length new
    → ArePlaces nodes (set new (slice_index nodes k) (k + 1)) (k + 1)
places_more nodes old new k are same within = record { there = there; each = each } where
  node : ℕ
  node = slice_index nodes k

  here : slice_index (set new (slice_index nodes k) (k + 1)) (slice_index nodes k) ≡ k + 1
  here = get_or-set_same new (slice_index nodes k) (k + 1) 0 within

  others : (v : ℕ) → v ≢ slice_index nodes k → slice_index (set new (slice_index nodes k) (k + 1)) v ≡ slice_index old v
  others v other = get_or-set_other new (slice_index nodes k) v (k + 1) 0 other ∙ same v

  there : (v j : ℕ) → slice_index (set new (slice_index nodes k) (k + 1)) v ≡ suc j → (j < k + 1) × (slice_index nodes j ≡ v)
  there v j is = elim (cases_eq v (slice_index nodes k)) [
    | inl e ↦ (let at : k ≡ j = omega (arith, here, is, ap (slice_index (set new (slice_index nodes k) (k + 1))) e) in
        (omega arith, ap (slice_index nodes) (sym at) ∙ sym e))
    | inr other ↦ (let was = are.there v j (sym (others v other) ∙ is) in (omega (arith, was.0), was.1))
  ]

  each : (j : ℕ) → j < k + 1 → IsPlaced (set new (slice_index nodes k) (k + 1)) (slice_index nodes j)
  each j lt = elim (cases_eq (slice_index nodes j) (slice_index nodes k)) [
    | inl e ↦ omega (arith, here, ap (slice_index (set new (slice_index nodes k) (k + 1))) e)
    | inr other ↦ (let before : j < k = before j lt other in omega (arith, others (slice_index nodes j) other, are.each j before))
  ] where
    before : (j : ℕ) → j < k + 1 → slice_index nodes j ≢ slice_index nodes k → j < k
    before j lt other = elim (cases_eq j k) [
      | inl e ↦ absurd (other (ap (slice_index nodes) e))
      | inr ne ↦ omega arith
    ]

-- ---- times

-- what has a time has a place
pub placed : (places : List ℕ) (times : List (Option ℕ)) (v t : ℕ) → time_of places times v ≡ Some t → IsPlaced places v
placed places times v t is = go (slice_index places v) refl where
  go : (p : ℕ) → slice_index places v ≡ p → IsPlaced places v
  go zero e = (let h : None ≡ Some t = sym (ap (time_by times) e) ∙ is in cc)
  go (suc j) e = omega arith

at_blank : (n j : ℕ) (none : Option ℕ) → slice_index_or (replicate n none) j none ≡ none
at_blank n j none = elim (cases_lt j n) [
  | inl lt ↦ get_or-replicate n j none none lt
  | inr ge ↦ get_or_past (replicate n none) j none (omega (arith, length-replicate n none))
]

-- at first no target has a time
none_yet : (places : List ℕ) (n v : ℕ) → time_of places (replicate n None) v ≡ None
none_yet places n v = go (slice_index places v) where
  go : (p : ℕ) → time_by (replicate n None) p ≡ None
  go zero = refl
  go (suc j) = at_blank n j None

pub place_within : (nodes places : List ℕ) (v : ℕ) → ArePlaces nodes places (length nodes) → slice_index places v ≤ length nodes
place_within nodes places v are = go (slice_index places v) refl where
  go : (p : ℕ) → slice_index places v ≡ p → p ≤ length nodes
  go zero e = omega arith
  go (suc k) e = omega (arith, (are.there v k e).0)

-- the first time is noted at the place of a target
pub noted_at : (nodes places : List ℕ) (old : List (Option ℕ)) (v at p : ℕ) → ArePlaces nodes places (length nodes) → length old ≡ length nodes
    → p ≡ slice_index places v → 0 < p → IsNoted places old (set old (p - 1) (Some (earlier (slice_index_or old (p - 1) None) at))) v at
noted_at nodes places old v at p are one_each is there = go (p - 1) (omega arith) where
  go : (k : ℕ) → slice_index places v ≡ suc k → IsNoted places old (set old k (Some (earlier (slice_index_or old k None) at))) v at
  go k e = record { here = here; others = others } where
    new : List (Option ℕ)
    new = set old k (Some (earlier (slice_index_or old k None) at))

    within : k < length old
    within = omega (arith, (are.there v k e).0)

    here : IsPlaced places v → time_of places (set old k (Some (earlier (slice_index_or old k None) at))) v ≡ Some (earlier (time_of places old v) at)
    here placed =
        ap (time_by (set old k (Some (earlier (slice_index_or old k None) at)))) e
        ∙ get_or-set_same old k (Some (earlier (slice_index_or old k None) at)) None within
        ∙ ap (λ (q : ℕ). Some (earlier (time_by old q) at)) (sym e)

    other_at : (w : ℕ) → w ≢ v → (q : ℕ) → slice_index places w ≡ q → time_by (set old k (Some (earlier (slice_index_or old k None) at))) q ≡ time_by old q
    other_at w other zero is = refl
    other_at w other (suc j) is =
        get_or-set_other old k j (Some (earlier (slice_index_or old k None) at)) None
        (λ same. other (sym (are.there w j is).1 ∙ ap (slice_index nodes) same ∙ (are.there v k e).1))

    others : (w : ℕ) → w ≢ v → time_of places (set old k (Some (earlier (slice_index_or old k None) at))) w ≡ time_of places old w
    others w other = other_at w other (slice_index places w) refl

-- one more is reached
pub reached_more : (nodes places : List ℕ) (times : List (Option ℕ)) (p t : ℕ) → AreReached nodes places times p → time_of places times (slice_index nodes p) ≡ Some t
    → AreReached nodes places times (p + 1)
reached_more nodes places times p t reached is k lt within = elim (cases_eq k p) [
  | inl e ↦ (t, ap (λ (j : ℕ). time_of places times (slice_index nodes j)) e ∙ is)
  | inr ne ↦ reached k (omega arith) within
]

-- a target that was reached stays so
pub reached_stays : (nodes places : List ℕ) (old new : List (Option ℕ)) (v at count : ℕ) → IsNoted places old new v at
    → AreReached nodes places old count → AreReached nodes places new count
reached_stays nodes places old new v at count noted reached k lt within =
    let was = reached k lt within in
    elim (cases_eq (slice_index nodes k) v) [
      | inl e ↦ (
        earlier (time_of places old v) at,
        ap (time_of places new) e ∙ noted.here (subst (IsPlaced places) e (placed places old (slice_index nodes k) was.0 was.1)),
      )
      | inr other ↦ (was.0, noted.others (slice_index nodes k) other ∙ was.1)
    ]

-- ---- what is noted at the end of a walk

only_one : (v w : ℕ) → Contains (v ∷ []) w → w ≡ v
only_one v w has = elim (Contains-push_cases [] v w has) [
  | inl none ↦ absurd (omega (arith, none.1))
  | inr e ↦ sym e
]

earlier_by : (o : Option ℕ) (u at : ℕ) → o ≡ Some u → earlier o at ≤ u
earlier_by None u at is = cc
earlier_by (Some t) u at is = (let same : t ≡ u = cc in go (nat_lt at t) refl same) where
  go : (b : Bool) → nat_lt at t ≡ b → t ≡ u → cond b at t ≤ u
  go true lt same = omega (arith, ltb-true at t lt, same)
  go false ge same = omega (arith, same)

-- it is one of the two
earlier_of : (P : ℕ → Type 0) (o : Option ℕ) (at : ℕ) → ((u : ℕ) → o ≡ Some u → P u) → P at → P (earlier o at)
earlier_of P None at was here = here
earlier_of P (Some t) at was here = go (nat_lt at t) where
  go : (b : Bool) → P (cond b at t)
  go true = here
  go false = was t refl

earlier_now : (o : Option ℕ) (at : ℕ) → earlier o at ≤ at
earlier_now None at = omega arith
earlier_now (Some t) at = go (nat_lt at t) refl where
  go : (b : Bool) → nat_lt at t ≡ b → cond b at t ≤ at
  go true lt = omega arith
  go false ge = ltb-false at t ge

module _ (l : LabelsMeaning) (places : List ℕ) (base : ℕ) (old new : Noted) (s : Scan) (end : IsEndNoted l places base old new s) where
  time_same : (l.accepts s.state ≡ false) → (v : ℕ) → time_of places new.times.items v ≡ time_of places old.times.items v
  time_same e v = ap (λ (xs : List (Option ℕ)). time_of places xs v) (end.passes (λ h. false≢true (sym e ∙ h)))

  -- what was noted by a time stays so
  noted_stays : (v t : ℕ) → IsNotedBy places old.times.items v t → IsNotedBy places new.times.items v t
  noted_stays v t (u, is, by) = go (l.accepts s.state) refl where
    go : (b : Bool) → l.accepts s.state ≡ b → IsNotedBy places new.times.items v t
    go false e = (u, time_same e v ∙ is, by)
    go true e = elim (cases_eq v s.node) [
      | inl same ↦ (
        earlier (time_of places old.times.items s.node) (base + s.delay),
        ap (time_of places new.times.items) same ∙ (end.ends e).here (subst (IsPlaced places) same (placed places old.times.items v u is)),
        omega (arith, by, earlier_by (time_of places old.times.items s.node) u (base + s.delay) (ap (time_of places old.times.items) (sym same) ∙ is)),
      )
      | inr other ↦ (u, (end.ends e).others v other ∙ is, by)
    ]

  end_stays : (v q t : ℕ) → IsEndNotedBy l places old.times.items v q t → IsEndNotedBy l places new.times.items v q t
  end_stays v q t was is accepts = noted_stays v t (was is accepts)

  -- and what is there now is noted
  end_noted : IsEndNotedBy l places new.times.items s.node s.state (base + s.delay)
  end_noted is accepts = (
    earlier (time_of places old.times.items s.node) (base + s.delay),
    (end.ends accepts).here is,
    earlier_now (time_of places old.times.items s.node) (base + s.delay),
  )

-- ---- the search

module _ (g : GraphMeaning) (l : LabelsMeaning) (starts : List ℕ) (dep : ℕ) (places : List ℕ) where
  -- where none was reached, the search goes on
  pub noted_begins : (until n : ℕ) (noted : Noted) → until ≡ 2 ^ 64 - 1 → noted.times.items ≡ replicate n None → AreNoted g l starts dep places until noted
  noted_begins until n noted all none = record {
    right = λ v t is. (let h : None ≡ Some t = sym (none_yet places n v) ∙ ap (λ (xs : List (Option ℕ)). time_of places xs v) (sym none) ∙ is in cc);
    goes_to = inl all;
    in_range = omega (arith, all);
  }

  -- a target that is reached in an accepting state is arrived at
  arrives_at : (v q t : ℕ) → IsReachedAt g l starts dep v q t → IsTrue (l.accepts q) → ArrivesAt g l starts (v ∷ []) dep t
  arrives_at v q t reached accepts = record {
    start = reached.start;
    end = v;
    steps = reached.steps;
    starts_there = reached.starts_there;
    ends_there = Contains-push [] v;
    walk = reached.walk;
    word = (reached.first, q, reached.is_state, reached.is_start, reached.reads, accepts);
  }

  module _ (until : ℕ) (old new : Noted) (s : Scan) (noted : AreNoted g l starts dep places until old) (end : IsEndNoted l places dep old new s)
      (reached : IsReachedAt g l starts dep s.node s.state (dep + s.delay)) (soon : s.delay < 2 ^ 64) where
    right_at : IsTrue (l.accepts s.state) → (v t : ℕ) → time_of places new.times.items v ≡ Some t → IsArrivalBy g l starts dep new.latest v t
    right_at accepts v t is = elim (cases_eq v s.node) [
      | inl e ↦ (let here = subst (IsPlaced places) e (placed places new.times.items v t is) in
          let time : Some (earlier (time_of places old.times.items s.node) (dep + s.delay)) ≡ Some t =
          sym ((end.ends accepts).here here) ∙ ap (time_of places new.times.items) (sym e) ∙ is in
          let same : earlier (time_of places old.times.items s.node) (dep + s.delay) ≡ t = cc in
          subst (λ w. IsArrivalBy g l starts dep new.latest w t) (sym e)
          (subst Is same (earlier_of Is (time_of places old.times.items s.node) (dep + s.delay)
          (λ u was. (let r = noted.right s.node u was in (r.0, omega (arith, r.1, end.latest), r.2)))
          (arrives_at s.node s.state (dep + s.delay) reached accepts, omega (arith, end.late accepts here), omega (arith, soon)))))
      | inr other ↦ (let r = noted.right v t (sym ((end.ends accepts).others v other) ∙ is) in (r.0, omega (arith, r.1, end.latest), r.2))
    ] where
      Is : ℕ → Type 0
      Is u = IsArrivalBy g l starts dep new.latest s.node u

    noted_on : AreNoted g l starts dep places until new
    noted_on = record {
      right = λ v t is. right_now v t is (l.accepts s.state) refl;
      goes_to = elim noted.goes_to [ inl all ↦ inl all | inr by ↦ inr (λ v is. noted_stays l places dep old new s end v (dep + until) (by v is)) ];
      in_range = noted.in_range;
    } where
      right_now : (v t : ℕ) → time_of places new.times.items v ≡ Some t → (b : Bool) → l.accepts s.state ≡ b → IsArrivalBy g l starts dep new.latest v t
      right_now v t is true e = right_at e v t is
      right_now v t is false e = (let r = noted.right v t (sym (time_same l places dep old new s end e v) ∙ is) in (r.0, omega (arith, r.1, end.latest), r.2))

  -- where all are reached, the search goes on to the latest of the times alone
  noted_to : (until next : ℕ) (noted : Noted) (nodes : List ℕ) (count : ℕ) → ArePlaces nodes places (length nodes) → AreReached nodes places noted.times.items count
      → length nodes ≤ count → next ≡ min until noted.latest → AreNoted g l starts dep places until noted → AreNoted g l starts dep places next noted
  noted_to until next noted nodes count are reached all is was = record { right = was.right; goes_to = inr by; in_range = omega (arith, is, was.in_range) } where
    time_by_latest : (v : ℕ) → IsPlaced places v → (t : ℕ) × (time_of places noted.times.items v ≡ Some t) × IsArrivalBy g l starts dep noted.latest v t
    time_by_latest v there = go (slice_index places v) refl where
      go : (p : ℕ) → slice_index places v ≡ p → (t : ℕ) × (time_of places noted.times.items v ≡ Some t) × IsArrivalBy g l starts dep noted.latest v t
      go zero e = absurd (omega (arith, there, e))
      go (suc k) e =
          let at = are.there v k e in
          let known = reached k (omega (arith, at.0, all)) at.0 in
          let same = ap (time_of places noted.times.items) (sym at.1) ∙ known.1 in
          (known.0, same, was.right v known.0 same)

    by : (v : ℕ) → IsPlaced places v → IsNotedBy places noted.times.items v (dep + next)
    by v there =
        let last = time_by_latest v there in
        elim was.goes_to [
          | inl top ↦ (last.0, last.1, omega (arith, last.2.1, last.2.2, is, top))
          | inr noted_by ↦ (let first = noted_by v there in
              let h : Some first.0 ≡ Some last.0 = sym first.1 ∙ last.1 in
              let same : first.0 ≡ last.0 = cc in
              (last.0, last.1, omega (arith, last.2.1, first.2, is, same)))
        ]

  module _ (f : Frontier) (noted : Noted) (searched : IsSearched g l starts dep (IsEndNotedBy l places noted.times.items) f)
      (are : AreNoted g l starts dep places f.until noted) where
    -- an arrival that is wanted is noted by its time
    wanted_noted : (v q t : ℕ) → IsPlaced places v → IsReachedAt g l starts dep v q t → IsTrue (l.accepts q) → IsWanted f t → IsNotedBy places noted.times.items v t
    wanted_noted v q t there reached accepts wanted =
        let y = searched.complete v q t reached wanted in
        let early = row_wanted f searched.right y.number y.row y.known (wanted_down f (f.base + (y.row).delay) t y.by wanted) in
        let seen = searched.seen y.number y.row y.known early (subst (IsPlaced places) (sym y.node) there) (subst (λ r. IsTrue (l.accepts r)) (sym y.state) accepts) in
        (seen.0, ap (time_of places noted.times.items) (sym y.node) ∙ seen.1, omega (arith, seen.2, y.by))

    -- and so is each other one
    arrival_noted : (v t : ℕ) → IsPlaced places v → ArrivesAt g l starts (v ∷ []) dep t → IsNotedBy places noted.times.items v t
    arrival_noted v t there arrives = go are.goes_to where
      walk : IsReachedAt g l starts dep v (arrives.word).1 t
      walk = subst (λ w. IsReachedAt g l starts dep w (arrives.word).1 t) (only_one v arrives.end arrives.ends_there) (record {
        start = arrives.start;
        first = (arrives.word).0;
        steps = arrives.steps;
        starts_there = arrives.starts_there;
        is_state = (arrives.word).2;
        is_start = (arrives.word).3;
        walk = arrives.walk;
        reads = (arrives.word).4;
      })

      go : (f.until ≡ 2 ^ 64 - 1) ⊎ ((v : ℕ) → IsPlaced places v → IsNotedBy places noted.times.items v (dep + f.until)) → IsNotedBy places noted.times.items v t
      go (inl all) = wanted_noted v (arrives.word).1 t there walk (arrives.word).5 (inl all)
      go (inr by) = elim (cases_lt t (f.base + f.until)) [
        | inl lt ↦ wanted_noted v (arrives.word).1 t there walk (arrives.word).5 (inr lt)
        | inr ge ↦ (let u = by v there in (u.0, u.1, omega (arith, u.2, ge, searched.base)))
      ]

    pub all_noted : AreAllTimes g l starts dep places noted.times.items
    all_noted v there = go (time_of places noted.times.items v) refl where
      go : (o : Option ℕ) → time_of places noted.times.items v ≡ o → IsArrivalAt g l starts dep v o
      go None e = (λ t within arrives. (let by = arrival_noted v t there arrives in let h : None ≡ Some by.0 = sym e ∙ by.1 in cc), tt)
      go (Some a) e = ((record { reached = (are.right v a e).0; least = least }, tt), omega (arith, (are.right v a e).2)) where
        least : (t : ℕ) → ArrivesAt g l starts (v ∷ []) dep t → a ≤ t
        least t arrives =
            let by = arrival_noted v t there arrives in
            let h : Some a ≡ Some by.0 = sym e ∙ by.1 in
            let same : a ≡ by.0 = cc in
            omega (arith, by.2, same)

-- ---- a turn of the search

-- the search goes on as it did, or, where all are reached, up to the latest of the times
abbrev pub IsBounded : List ℕ → Noted → Frontier → Frontier → Type 0
IsBounded nodes noted old new = (new ≡ old) ⊎ ((new ≡ record old { until = min old.until noted.latest }) × (length nodes ≤ noted.passed))

module _ (g : GraphMeaning) (l : LabelsMeaning) (starts : List ℕ) (dep : ℕ) (nodes places : List ℕ) (are : ArePlaces nodes places (length nodes))
    (f f1 f2 : Frontier) (old new : Noted) (s : Scan) (searching : IsSearching g l starts dep (IsEndNotedBy l places old.times.items) f) (takes : Takes f f1 s)
    (noted : AreNoted g l starts dep places f.until old) (end : IsEndNoted l places f1.base old new s) (bounded : IsBounded nodes new f1 f2) where
  scanning : IsScanning g l starts dep (IsEndNotedBy l places new.times.items) f1 s
  scanning = scanning_weaker g l starts dep (IsEndNotedBy l places old.times.items) (IsEndNotedBy l places new.times.items) f1 s
      (end_stays l places f1.base old new s end) (takes_scanning g l starts dep (IsEndNotedBy l places old.times.items) f f1 s searching takes)

  scanning_now : IsScanning g l starts dep (IsEndNotedBy l places new.times.items) f2 s
  scanning_now = elim bounded [
    | inl same ↦ subst (λ x. IsScanning g l starts dep (IsEndNotedBy l places new.times.items) x s) (sym same) scanning
    | inr is ↦ subst (λ x. IsScanning g l starts dep (IsEndNotedBy l places new.times.items) x s) (sym is.0)
        (scanning_until g l starts dep (min f1.until new.latest) (IsEndNotedBy l places new.times.items) f1 s (omega arith)
        (λ top. omega (arith, top, noted.in_range, (takes.same).until)) scanning)
  ]

  end_at : IsEndNoted l places dep old new s
  end_at = subst (λ b. IsEndNoted l places b old new s) ((takes.same).base ∙ searching.base) end

  noted_now : AreReached nodes places new.times.items new.passed → AreNoted g l starts dep places f2.until new
  noted_now reached = elim bounded [
    | inl same ↦ subst (λ u. AreNoted g l starts dep places u new) (sym (ap (λ (x : Frontier). x.until) same ∙ (takes.same).until)) on
    | inr is ↦ noted_to g l starts dep places f.until f2.until new nodes new.passed are reached is.1
        (ap (λ (x : Frontier). x.until) is.0 ∙ ap (λ u. min u new.latest) (takes.same).until) on
  ] where
    on : AreNoted g l starts dep places f.until new
    on = noted_on g l starts dep places f.until old new s noted end_at (scanning_reached g l starts dep (IsEndNotedBy l places new.times.items) f1 s scanning)
        (omega (arith, scanning.delay, (scanning.right).soon scanning.number scanning.row scanning.known))

  given_now : (rides : RunRides) (given : GivenRuns) → AreGivenReached rides l f given → AreGivenReached rides l f2 given
  given_now rides given = given_stays l rides f f2 given
      (λ t wanted. elim wanted [ inl top ↦ inl (omega (arith, top, less, noted.in_range)) | inr lt ↦ inr (omega (arith, lt, less, base)) ])
      (λ v q t by. record {
        number = by.number;
        row = by.row;
        known = ap (λ rs. slice_get rs by.number) same_rows ∙ by.known;
        node = by.node;
        state = by.state;
        by = omega (arith, by.by, base);
      }) where
        less : f2.until ≤ f.until
        less = elim bounded [
          | inl same ↦ omega (arith, ap (λ (x : Frontier). x.until) same, (takes.same).until)
          | inr is ↦ omega (arith, ap (λ (x : Frontier). x.until) is.0, (takes.same).until)
        ]

        base : f2.base ≡ f.base
        base = elim bounded [ inl same ↦ ap (λ (x : Frontier). x.base) same ∙ (takes.same).base | inr is ↦ ap (λ (x : Frontier). x.base) is.0 ∙ (takes.same).base ]

        same_rows : rows f2 ≡ rows f
        same_rows = elim bounded [ inl same ↦ ap rows same ∙ (takes.same).rows | inr is ↦ ap rows is.0 ∙ (takes.same).rows ]

  -- what holds when the arcs of s are to be explored
  pub turn_now : (rides : RunRides) (given : GivenRuns) → AreGivenReached rides l f given → AreReached nodes places new.times.items new.passed
      → IsScanning g l starts dep (IsEndNotedBy l places new.times.items) f2 s × IsEndNotedBy l places new.times.items s.node s.state (dep + s.delay)
      × AreNoted g l starts dep places f2.until new × AreGivenReached rides l f2 given
  turn_now rides given all reached = (scanning_now, end_noted l places dep old new s end_at, noted_now reached, given_now rides given all)

-- in the order of the list they are what is answered
pub are_arrivals : (g : GraphMeaning) (l : LabelsMeaning) (starts : List ℕ) (dep : ℕ) (nodes places : List ℕ) (times list : List (Option ℕ))
    → ArePlaces nodes places (length nodes) → AreAllTimes g l starts dep places times → list ≡ map (time_of places times) nodes → AreArrivals g l starts nodes dep list
are_arrivals g l starts dep nodes places times list are all is = record {
  one_each = ap length is ∙ length-map nodes (time_of places times);
  are = λ k lt. subst (IsArrivalAt g l starts dep (slice_index nodes k))
      (sym (ap (λ (xs : List (Option ℕ)). slice_index_or xs k None) is ∙ get_or-map (time_of places times) nodes k 0 None lt))
      (all (slice_index nodes k) (are.each k lt));
}
