-- Times while they are swept.
use Rattle.plan_base.proofs.Common.{◌≡◌, ℕ, ◌+◌, ◌<◌, ◌≤◌, ◌^◌, ◌⊎◌, inl, inr, List, [], ◌∷◌, ◌++◌, length, set, refl, sym, ap, subst, arith, ◌∙◌, All-contains, Contains, cases_lt, cases_eq, length-set, get_or-set_other, get_or-set_same}
use Rattle.hierarchy.specs.{Hop, AreHops, total}
use Rattle.hierarchy.proofs.HopLemmas.{hops_then, hops_weaker, total-append}
use Rattle.sweeps.specs.Rows.{row_at}
use Rattle.sweeps.specs.Slopes.{Slope, leg_by, LeadsDown}
use Rattle.sweeps.specs.Sheets.{Sheet, LeadsUp, LeadsBetween, IsWhole}
use Rattle.sweeps.specs.Sweeps.{time_at, ArrivesBy, IsWalked, AreWalked, AreClosed}
use Rattle.sweeps.proofs.EntryLemmas.{hop_by}
use Rattle.sweeps.specs.inside.Steps.{AreSpread, IsSpreadBy, IsGathered, IsGatheredBy}

-- ---- walks

module _ (Leads : ℕ → ℕ → ℕ → Type 0) (times : List ℕ) where
  -- where it is as late as before no hop is needed
  pub stands : (j : ℕ) → IsWalked Leads times j (time_at times j)
  stands j = record { start = j; hops = []; walk = refl; at = omega arith }

  pub walks_on : (i j t w : ℕ) → IsWalked Leads times i t → Leads i j w → IsWalked Leads times j (t + w)
  walks_on i j t w is leads = record {
    start = is.start;
    hops = is.hops ++ hop_by j w ∷ [];
    walk = hops_then Leads is.hops (hop_by j w ∷ []) is.start i j is.walk (leads, refl);
    at = omega (arith, is.at, total-append is.hops (hop_by j w ∷ []));
  }

  pub unchanged : AreWalked Leads times times
  unchanged = record { as_many = refl; no_later = λ j. omega arith; walked = stands }

  -- where times are closed under hops, they are under walks
  pub closed_along : (limit : ℕ) → AreClosed Leads limit times → (hops : List Hop) (u v : ℕ) → AreHops Leads u hops v → ArrivesBy limit (time_at times u) (total hops) (time_at times v)
  closed_along limit closed [] u v walk = λ below. subst (λ x. time_at times x ≤ time_at times u + 0) (sym walk) (omega arith)
  closed_along limit closed (hop ∷ hops) u v (leads, walk) = λ below.
      (let first : time_at times hop.to ≤ time_at times u + hop.weight = closed u hop.to hop.weight leads (omega arith) in
      let more : time_at times v ≤ time_at times hop.to + total hops = closed_along limit closed hops hop.to v walk (omega arith) in
      omega arith)

-- ---- the sweep up

module _ (s : Sheet) (limit : ℕ) (before : List ℕ) where
  -- the legs up from the places below k are taken
  pub record UpTo (k : ℕ) (now : List ℕ) : Type 0 where
    pub walked : AreWalked (LeadsUp s) before now
    pub closed : (i j w : ℕ) → i < k → LeadsUp s i j w → ArrivesBy limit (time_at now i) w (time_at now j)

  pub up_begins : UpTo 0 before
  up_begins = record { walked = unchanged (LeadsUp s) before; closed = λ i j w lt leads. absurd (omega arith) }

  pub up_ends : (k : ℕ) (now : List ℕ) → length s.slope.nodes.items ≤ k → UpTo k now → AreClosed (LeadsUp s) limit now
  up_ends k now all up = λ i j w leads. up.closed i j w (omega (arith, leads.0)) leads

  module _ (k : ℕ) (now : List ℕ) (up : UpTo k now) where
    -- a place at the limit or past it has nothing to give
    pub up_passes : limit ≤ time_at now k → UpTo (k + 1) now
    up_passes late = record {
      walked = up.walked;
      closed = λ i j w lt leads below. elim (cases_lt i k) [
        | inl less ↦ up.closed i j w less leads below
        | inr more ↦ (let here : i ≡ k = omega arith in let same : time_at now i ≡ time_at now k = ap (time_at now) here in absurd (omega arith))
      ];
    }

    pub up_more : (next : List ℕ) (t : ℕ) → t ≡ time_at now k → k < length s.slope.nodes.items → limit ≤ 2 ^ 32 → AreSpread t (row_at s.ups k) now next → UpTo (k + 1) next
    up_more next t at inside small spread = record {
      walked = record {
        as_many = spread.as_many ∙ up.walked.as_many;
        no_later = λ j. omega (arith, spread.no_later j, up.walked.no_later j);
        walked = λ j. by_change j (spread.changed j);
      };
      closed = λ i j w lt leads below. (let stays = same i (omega arith) in elim (cases_lt i k) [
        | inl less ↦ (let then : time_at now j ≤ time_at now i + w = up.closed i j w less leads (omega arith) in omega (arith, spread.no_later j))
        | inr more ↦ (let here : i ≡ k = omega arith in
            let of : Contains (row_at s.ups k) (leg_by j w) = subst (λ x. Contains (row_at s.ups x) (leg_by j w)) here leads.1 in
            let is : time_at now i ≡ t = ap (time_at now) here ∙ sym at in
            let then : time_at next j ≤ t + w = All-contains (λ leg. ArrivesBy (2 ^ 32) t leg.ms (time_at next leg.to)) (row_at s.ups k) (leg_by j w) spread.reached of (omega arith) in
            omega arith)
      ]);
    } where
      same : (i : ℕ) → i ≤ k → time_at next i ≡ time_at now i
      same i le = elim (spread.changed i) [
        | inl stays ↦ stays
        | inr by ↦ (let on = All-contains (λ leg. (k < leg.to) × (leg.to < length s.slope.nodes.items)) (row_at s.ups k) by.leg (s.ups_on k inside) by.of in let to = by.to in absurd (omega (arith, on.0)))
      ]

      by_change : (j : ℕ) → (time_at next j ≡ time_at now j) ⊎ IsSpreadBy t (row_at s.ups k) j (time_at next j) → IsWalked (LeadsUp s) before j (time_at next j)
      by_change j (inl stays) = subst (IsWalked (LeadsUp s) before j) (sym stays) (up.walked.walked j)
      by_change j (inr by) =
          let here = subst (IsWalked (LeadsUp s) before k) (sym at) (up.walked.walked k) in
          let on = walks_on (LeadsUp s) before k by.leg.to t by.leg.ms here (inside, by.of) in
          subst (λ x. IsWalked (LeadsUp s) before x (time_at next j)) by.to (subst (IsWalked (LeadsUp s) before by.leg.to) (sym by.at) on)

-- ---- the sweep down

module _ (s : Slope) (before : List ℕ) where
  -- the legs down to the places from k on are taken
  pub record DownFrom (k : ℕ) (now : List ℕ) : Type 0 where
    pub walked : AreWalked (LeadsDown s) before now
    pub closed : (i j w : ℕ) → k ≤ j → LeadsDown s i j w → ArrivesBy (2 ^ 32) (time_at now i) w (time_at now j)

  pub down_begins : (k : ℕ) → length s.nodes.items ≤ k → DownFrom k before
  down_begins k all = record { walked = unchanged (LeadsDown s) before; closed = λ i j w le leads. absurd (omega (arith, leads.0)) }

  pub down_more : (k : ℕ) (now : List ℕ) (u : ℕ) → k < length s.nodes.items → k < length before → DownFrom (k + 1) now → IsGathered now (time_at now k) (row_at s.downs k) u → DownFrom k (set now k u)
  down_more k now u inside there down gathered = record {
    walked = record {
      as_many = length-set now k u ∙ down.walked.as_many;
      no_later = λ j. omega (arith, no_later j, down.walked.no_later j);
      walked = λ j. elim (cases_eq j k) [
        | inl same ↦ subst (λ x. IsWalked (LeadsDown s) before x (time_at (set now k u) x)) (sym same) (subst (IsWalked (LeadsDown s) before k) (sym here) (at_place gathered.changed))
        | inr other ↦ subst (IsWalked (LeadsDown s) before j) (sym (elsewhere j other)) (down.walked.walked j)
      ];
    };
    closed = λ i j w le leads below. (let on = All-contains (λ leg. (j < leg.to) × (leg.to < length s.nodes.items)) (row_at s.downs j) (leg_by i w) (s.downs_on j leads.0) leads.1 in
        let from = elsewhere i (λ e. omega (arith, on.0)) in elim (cases_eq j k) [
          | inl same ↦ (let of : Contains (row_at s.downs k) (leg_by i w) = subst (λ x. Contains (row_at s.downs x) (leg_by i w)) same leads.1 in
              let then : u ≤ time_at now i + w = All-contains (λ leg. ArrivesBy (2 ^ 32) (time_at now leg.to) leg.ms u) (row_at s.downs k) (leg_by i w) gathered.reached of (omega arith) in
              let at : time_at (set now k u) j ≡ u = ap (time_at (set now k u)) same ∙ here in
              omega arith)
          | inr other ↦ (let to = elsewhere j other in let then : time_at now j ≤ time_at now i + w = down.closed i j w (omega (arith, other)) leads (omega arith) in omega arith)
        ]);
  } where
    here : time_at (set now k u) k ≡ u
    here = get_or-set_same now k u 0 (omega (arith, down.walked.as_many))

    elsewhere : (j : ℕ) → (j ≡ k → ⊥) → time_at (set now k u) j ≡ time_at now j
    elsewhere j other = get_or-set_other now k j u 0 other

    no_later : (j : ℕ) → time_at (set now k u) j ≤ time_at now j
    no_later j = elim (cases_eq j k) [
      | inl same ↦ (let at : time_at (set now k u) j ≡ u = ap (time_at (set now k u)) same ∙ here in let was : time_at now j ≡ time_at now k = ap (time_at now) same in omega (arith, gathered.no_later))
      | inr other ↦ (let is = elsewhere j other in omega arith)
    ]

    at_place : (u ≡ time_at now k) ⊎ IsGatheredBy now (row_at s.downs k) u → IsWalked (LeadsDown s) before k u
    at_place (inl stays) = subst (IsWalked (LeadsDown s) before k) (sym stays) (down.walked.walked k)
    at_place (inr by) =
        subst (IsWalked (LeadsDown s) before k) (sym by.at) (walks_on (LeadsDown s) before by.leg.to k (time_at now by.leg.to) by.leg.ms (down.walked.walked by.leg.to) (inside, by.of))

-- ---- both

module _ (s : Sheet) (before between after : List ℕ) (up : AreWalked (LeadsUp s) before between) (down : AreWalked (LeadsDown s.slope) between after) where
  -- a walk up before a walk down
  walked : (j : ℕ) → IsWalked (LeadsBetween s) before j (time_at after j)
  walked j =
      let second = down.walked j in
      let first = up.walked second.start in
      record {
        start = first.start;
        hops = first.hops ++ second.hops;
        walk = hops_then (LeadsBetween s) first.hops second.hops first.start second.start j
            (hops_weaker (LeadsUp s) (LeadsBetween s) (λ u v w leads. inl leads) first.hops first.start second.start first.walk)
            (hops_weaker (LeadsDown s.slope) (LeadsBetween s) (λ u v w leads. inr leads) second.hops second.start j second.walk);
        at = omega (arith, first.at, second.at, total-append first.hops second.hops);
      }

  pub both_walked : AreWalked (LeadsBetween s) before after
  both_walked = record { as_many = down.as_many ∙ up.as_many; no_later = λ j. omega (arith, up.no_later j, down.no_later j); walked = walked }

  pub both_closed : (limit : ℕ) → limit ≤ 2 ^ 32 → AreClosed (LeadsUp s) limit between → AreClosed (LeadsDown s.slope) (2 ^ 32) after → IsWhole s → AreClosed (LeadsBetween s) limit after
  both_closed limit small up_closed down_closed whole = λ i j w leads below.
      (let is = walked i in
      let to = is.hops ++ hop_by j w ∷ [] in
      let way = whole is.start j to (hops_then (LeadsBetween s) is.hops (hop_by j w ∷ []) is.start i j is.walk (leads, refl)) in
      let long : total way.climb + total way.descent ≤ total is.hops + w = omega (arith, way.within, total-append is.hops (hop_by j w ∷ [])) in
      let begin : time_at between is.start ≤ time_at before is.start = up.no_later is.start in
      let top : time_at between way.peak ≤ time_at between is.start + total way.climb = closed_along (LeadsUp s) between limit up_closed way.climb is.start way.peak way.climbs (omega (arith, is.at)) in
      let lower : time_at after way.peak ≤ time_at between way.peak = down.no_later way.peak in
      let end : time_at after j ≤ time_at after way.peak + total way.descent = closed_along (LeadsDown s.slope) after (2 ^ 32) down_closed way.descent way.peak j way.descends (omega (arith, is.at)) in
      omega (arith, is.at))
