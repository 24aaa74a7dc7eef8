-- Arrivals at nodes, from the delays before any descent and those after one.
use Rattle.plan_base.proofs.Common.{◌≡◌, ◌∙◌, ℕ, ◌+◌, ◌*◌, ◌-◌, ◌^◌, ◌<◌, ◌≤◌, ◌⊎◌, min, false, List, [], ◌∷◌, length, map, Option, Some, None, inl, inr, refl, sym, ap, subst, arith, Contains, All, All-contains, All-contains_itself, cases_lt, slice_index, slice_index_or}
use Rattle.search_laws.specs.{GraphMeaning, LabelsMeaning, IsLawfulLabels, IsRoadLabels, ArrivesAt, Leg}
use Rattle.mode_network.specs.{NetworkLists.NetworkLists, IsNetwork, nodes_of}
use Rattle.hierarchy.specs.{Hop, AreHops, total, HierarchyLists, IsContracted, IsHierarchy, IsSound, falls_into}
use Rattle.hierarchy.proofs.{HeightLemmas.height_most, PlaceLemmas.Contains-map}
use Rattle.product_search.specs.{Label, IsReachedAt, IsArrival}
use Rattle.product_search.proofs.ClosureLemmas.{walk_stays}
use Rattle.phase_graph.specs.{phase_node, node_of, IsInUse, starts_in, target_numbers}
use Rattle.phase_graph.proofs.InUseLemmas.{graphs_in_use_are_lawful, starts_under}
use Rattle.sweeps.specs.{Slope, LeadsDown, HasRoom, IsSlopeOf, time_at, AreWalked, AreClosed, leg_by, row_at, Layers.origin, Layers.origin_of}
use Rattle.sweeps.proofs.{EntryLemmas.Contains-from_map, EntryLemmas.entry_fall, EntryLemmas.fall_entry, EntryLemmas.hop_by, LayerLemmas.HasHops}
use Rattle.rounds.specs.{AreReachedLabels}
use Rattle.descents.specs.{EntryLeadsDown, IsEndAt, DescendsBy, AreNodeArrivals, IsServedOn}
use Rattle.descents.specs.inside.{IsKnownLabel, EndsAt, GoesOnAt, IsFirst, AreDelays, AreSwept, IsTimeAfter, IsDelayAt, AreTimesAfter, Delaying.Delays}
use Rattle.rounds.proofs.MoveLemmas.{reached_state}
use Rattle.descents.proofs.{FallLemmas.ends_or_descends, FallLemmas.end_arrives, FallLemmas.descent_arrives}

-- ---- descents over entries and over the legs of a slope

-- what entries lead down to is contracted
pub low_end : (h : HierarchyLists) (hops : List Hop) (u v : ℕ) → AreHops (EntryLeadsDown h) u hops v → (v ≡ u) ⊎ IsContracted h.order v
low_end h [] u v walk = inl walk
low_end h (hop ∷ hops) u v (leads, walk) = inr (elim (low_end h hops hop.to v walk) [
  | inl same ↦ (let most = height_most h.order u in let low : IsContracted h.order hop.to = omega (arith, leads.1) in subst (IsContracted h.order) (sym same) low)
  | inr low ↦ low
])

module _ (h : HierarchyLists) (s : Slope) (is : IsSlopeOf h s.nodes.items s) where
  abbrev node : ℕ → ℕ
  node i = slice_index s.nodes.items i

  leg_inside : (i j w : ℕ) → LeadsDown s i j w → i < length s.nodes.items
  leg_inside i j w (lt, of) = (All-contains (λ (leg : Leg). (j < leg.to) × (leg.to < length s.nodes.items)) (row_at s.downs j) (leg_by i w) (s.downs_on j lt) of).1

  start_inside : (hops : List Hop) (i j : ℕ) → j < length s.nodes.items → AreHops (LeadsDown s) i hops j → i < length s.nodes.items
  start_inside [] i j lt walk = omega (arith, walk)
  start_inside (hop ∷ hops) i j lt (leads, walk) = leg_inside i hop.to hop.weight leads

  -- a leg is an entry that leads down
  leg_falls : (i j w : ℕ) → LeadsDown s i j w → EntryLeadsDown h (node i) (node j) w
  leg_falls i j w (lt, of) =
      fall_entry h (node i) (node j) w
      (subst (λ (hops : List Hop). Contains hops (hop_by (node i) w)) (is.downs j lt) (Contains-map (origin s.nodes.items) (row_at s.downs j) (leg_by i w) of))

  legs_fall : (hops : List Hop) (i j : ℕ) → AreHops (LeadsDown s) i hops j → HasHops (EntryLeadsDown h) (node i) (node j) (total hops)
  legs_fall [] i j walk = record { hops = []; walk = ap node walk; weighs = refl }
  legs_fall (hop ∷ hops) i j (leads, walk) =
      let more = legs_fall hops hop.to j walk in
      record { hops = hop_by (node hop.to) hop.weight ∷ more.hops; walk = (leg_falls i hop.to hop.weight leads, more.walk); weighs = ap (λ t. hop.weight + t) more.weighs }

  -- a place of v from which legs lead down
  pub record StartsAt (v j weight : ℕ) : Type 0 where
    pub place : ℕ
    pub within : place < length s.nodes.items
    pub at : node place ≡ v
    pub hops : List Hop
    pub walk : AreHops (LeadsDown s) place hops j
    pub weighs : total hops ≡ weight

  -- entries that lead down to a place are legs
  falls_start : (hops : List Hop) (u j : ℕ) → j < length s.nodes.items → AreHops (EntryLeadsDown h) u hops (node j) → StartsAt u j (total hops)
  falls_start [] u j lt walk = record { place = j; within = lt; at = walk; hops = []; walk = refl; weighs = refl }
  falls_start (hop ∷ hops) u j lt ((entry, above), walk) =
      let more = falls_start hops hop.to j lt walk in
      let there = subst (λ x. Contains (map origin_of (falls_into h x)) (hop_by u hop.weight)) (sym more.at) (entry_fall h u hop.to hop.weight entry above) in
      let found = Contains-from_map (origin s.nodes.items) (row_at s.downs more.place) (hop_by u hop.weight) (subst (λ (hs : List Hop). Contains hs (hop_by u hop.weight)) (sym (is.downs more.place more.within)) there) in
      let leg : LeadsDown s found.0.to more.place hop.weight = (more.within, subst (λ m. Contains (row_at s.downs more.place) (leg_by found.0.to m)) (ap (λ (x : Hop). x.weight) found.2) found.1) in
      record {
        place = found.0.to;
        within = leg_inside found.0.to more.place hop.weight leg;
        at = ap (λ (x : Hop). x.to) found.2;
        hops = hop_by more.place hop.weight ∷ more.hops;
        walk = (leg, more.walk);
        weighs = ap (λ t. hop.weight + t) more.weighs;
      }

  -- where times are closed and have room, none is never that legs lead to from one that is not
  late : (after : List ℕ) → AreClosed (LeadsDown s) (2 ^ 32) after → HasRoom s after → (hops : List Hop) (i j : ℕ) → AreHops (LeadsDown s) i hops j → time_at after i < 2 ^ 32 - 1
      → (time_at after j < 2 ^ 32 - 1) × (time_at after j ≤ time_at after i + total hops)
  late after closed room [] i j walk some = let same : time_at after j ≡ time_at after i = ap (time_at after) walk in (omega arith, omega arith)
  late after closed room (hop ∷ hops) i j (leads, walk) some =
      let roomy = room i hop.to hop.weight leads some in
      let next : time_at after hop.to ≤ time_at after i + hop.weight = closed i hop.to hop.weight leads (omega arith) in
      let more = late after closed room hops hop.to j walk (omega arith) in
      (more.0, omega (arith, more.1))

-- ---- delays

-- the delay is the least, or never where none arrives
pub record IsLeastDelay (Arrives : ℕ → Type 0) (dep delay : ℕ) : Type 0 where
  pub is : delay < 2 ^ 32 - 1 → Arrives (dep + delay)
  pub least : (t : ℕ) → Arrives t → (delay < 2 ^ 32 - 1) × (dep + delay ≤ t)

pub arrival_is : (g : GraphMeaning) (l : LabelsMeaning) (starts ends : List ℕ) (dep delay : ℕ) (arrival : Option ℕ) → IsLeastDelay (ArrivesAt g l starts ends dep) dep delay → IsTimeAfter dep delay arrival
    → IsArrival g l starts ends dep None arrival
arrival_is g l starts ends dep delay None first never = λ t within arrives. (let some = (first.least t arrives).0 in absurd (omega (arith, never)))
arrival_is g l starts ends dep delay (Some a) first (some, at) = (
  record { reached = subst (ArrivesAt g l starts ends dep) (sym at) (first.is some); least = λ t arrives. (let late = (first.least t arrives).1 in omega arith) },
  tt,
)

module _ (n : NetworkLists) (h : HierarchyLists) (network : IsNetwork n) (rules : IsHierarchy h) (sound : IsSound n h) (l : LabelsMeaning) (lawful : IsLawfulLabels l) (road : IsRoadLabels l)
    (g : GraphMeaning) (above : IsInUse n (Some h) [] g) (s : Slope) (slope : IsSlopeOf h s.nodes.items s) (origins : List ℕ) (dep : ℕ) (labels : List Label)
    (reach : AreReachedLabels g l (starts_in (Some h) origins) dep labels)
    (small : (x : Label) → Contains labels x → x.at < dep + (2 ^ 32 - 1)) where
  abbrev starts : List ℕ
  starts = starts_in (Some h) origins

  label_reached : (x : Label) → Contains labels x → IsReachedAt g l starts dep x.node x.state x.at
  label_reached x there = All-contains (λ (y : Label). IsReachedAt g l starts dep y.node y.state y.at) labels x reach.reached there

  -- the first of some labels is no later than one of them, and so not never
  first_by : (P : Label → Type 0) (delay : ℕ) → IsFirst P dep labels delay → (x : Label) → Contains labels x → P x → (delay < 2 ^ 32 - 1) × (dep + delay ≤ x.at)
  first_by P delay first x there holds = let early = first.none_earlier x there holds in let soon = small x there in (omega arith, early)

  end_by : (v delay t : ℕ) → IsFirst (EndsAt l v) dep labels delay → IsEndAt g l starts dep v t → (delay < 2 ^ 32 - 1) × (dep + delay ≤ t)
  end_by v delay t first end =
      let found = reach.all (phase_node v false) end.state t end.reached in
      let by = first_by (EndsAt l v) delay first _ found.2 (refl, end.accepts) in
      (by.0, omega (arith, by.1, found.1))

  end_is : (v delay : ℕ) → IsFirst (EndsAt l v) dep labels delay → delay < 2 ^ 32 - 1 → IsEndAt g l starts dep v (dep + delay)
  end_is v delay first some =
      let x = first.is some in
      record {
        state = x.0.state;
        accepts = x.2.1;
        reached = subst (IsReachedAt g l starts dep (phase_node v false) x.0.state) x.3 (subst (λ p. IsReachedAt g l starts dep p x.0.state x.0.at) x.2.0 (label_reached x.0 x.1));
      }

  -- ---- over the slope

  module _ (tops after : List ℕ) (firsts : (i : ℕ) → i < length s.nodes.items → IsFirst (GoesOnAt n l (slice_index s.nodes.items i)) dep labels (time_at tops i))
      (walked : AreWalked (LeadsDown s) tops after) (down : AreClosed (LeadsDown s) (2 ^ 32) after) (room : HasRoom s after) where
    descent_by : (j t : ℕ) → j < length s.nodes.items → DescendsBy n h g l starts dep (slice_index s.nodes.items j) t → (time_at after j < 2 ^ 32 - 1) × (dep + time_at after j ≤ t)
    descent_by j t lt d =
        let from = falls_start h s slope d.hops d.top j lt d.descent in
        let found = reach.all (phase_node d.top false) d.state d.at d.reached in
        let first = subst (λ v. IsFirst (GoesOnAt n l v) dep labels (time_at tops from.place)) from.at (firsts from.place from.within) in
        let by = first_by (GoesOnAt n l d.top) (time_at tops from.place) first _ found.2 ((refl, d.accepts), (d.mode, d.letter, d.stays)) in
        let top = walked.no_later from.place in
        let end = late h s slope after down room from.hops from.place j from.walk (omega (arith, by.0)) in
        (end.0, omega (arith, end.1, by.1, found.1, from.weighs, d.no_later))

    descent_is : (j : ℕ) → j < length s.nodes.items → time_at after j < 2 ^ 32 - 1
        → (d : DescendsBy n h g l starts dep (slice_index s.nodes.items j) (dep + time_at after j)) × (d.at + total d.hops ≡ dep + time_at after j)
    descent_is j lt some =
        let w = walked.walked j in
        let x = (firsts w.start (start_inside h s slope w.hops w.start j lt w.walk)).is (omega (arith, w.at)) in
        let falls = legs_fall h s slope w.hops w.start j w.walk in (
          record {
            top = slice_index s.nodes.items w.start;
            state = x.0.state;
            mode = x.2.1.0;
            at = x.0.at;
            hops = falls.hops;
            letter = x.2.1.1;
            accepts = x.2.0.1;
            stays = x.2.1.2;
            reached = subst (λ p. IsReachedAt g l starts dep p x.0.state x.0.at) x.2.0.0 (label_reached x.0 x.1);
            descent = falls.walk;
            no_later = omega (arith, x.3, falls.weighs, w.at);
          },
          omega (arith, x.3, falls.weighs, w.at),
        )

    module _ (v : ℕ) (served : IsServedOn n h s.nodes.items v) (ends : List ℕ) (first : IsFirst (EndsAt l v) dep labels (time_at ends v)) (targets : List ℕ) (k : GraphMeaning)
        (all : IsInUse n (Some h) targets k) (there : Contains targets v) where
      abbrev Arrives : ℕ → Type 0
      Arrives = ArrivesAt k l starts (target_numbers h v) dep

      either : (t : ℕ) → Arrives t → IsEndAt g l starts dep v t ⊎ DescendsBy n h g l starts dep v t
      either = ends_or_descends n h network rules sound l lawful road g k targets above all origins dep v there

      end : time_at ends v < 2 ^ 32 - 1 → Arrives (dep + time_at ends v)
      end some = end_arrives n h network rules sound l lawful road g k targets above all origins dep v there (dep + time_at ends v) (end_is v (time_at ends v) first some)

      -- a node that is not on the slope is reached before any descent
      alone : (Contains s.nodes.items v → ⊥) → IsLeastDelay Arrives dep (time_at ends v)
      alone off = record { is = end; least = λ t arrives. by_way t (either t arrives) } where
        by_way : (t : ℕ) → IsEndAt g l starts dep v t ⊎ DescendsBy n h g l starts dep v t → (time_at ends v < 2 ^ 32 - 1) × (dep + time_at ends v ≤ t)
        by_way t (inl ends_so) = end_by v (time_at ends v) t first ends_so
        by_way t (inr d) = elim (low_end h d.hops d.top v d.descent) [
          | inl same ↦ (let by = end_by v (time_at ends v) d.at first (record { state = d.state; accepts = d.accepts; reached = subst (λ x. IsReachedAt g l starts dep (phase_node x false) d.state d.at) (sym same) d.reached }) in
              (by.0, omega (arith, by.1, d.no_later)))
          | inr low ↦ absurd (off (served.1 low))
        ]

      -- one that is is so or after a descent, whichever is earlier
      on_place : (j : ℕ) → j < length s.nodes.items → slice_index s.nodes.items j ≡ v → IsLeastDelay Arrives dep (min (time_at ends v) (time_at after j))
      on_place j lt at = record { is = λ some. earlier (cases_lt (time_at ends v) (time_at after j)) some; least = λ t arrives. by_way t (either t arrives) } where
        earlier : (time_at ends v < time_at after j) ⊎ (time_at after j ≤ time_at ends v) → min (time_at ends v) (time_at after j) < 2 ^ 32 - 1 → Arrives (dep + min (time_at ends v) (time_at after j))
        earlier (inl less) some = let same : dep + time_at ends v ≡ dep + min (time_at ends v) (time_at after j) = omega arith in subst Arrives same (end (omega arith))
        earlier (inr more) some =
            let d = descent_is j lt (omega arith) in
            let of_v = subst (λ x. (d : DescendsBy n h g l starts dep x (dep + time_at after j)) × (d.at + total d.hops ≡ dep + time_at after j)) at d in
            let same : dep + time_at after j ≡ dep + min (time_at ends v) (time_at after j) = omega arith in
            subst Arrives (of_v.1 ∙ same) (descent_arrives n h network rules sound l lawful road g k targets above all origins dep v there (dep + time_at after j) of_v.0)

        by_way : (t : ℕ) → IsEndAt g l starts dep v t ⊎ DescendsBy n h g l starts dep v t → (min (time_at ends v) (time_at after j) < 2 ^ 32 - 1) × (dep + min (time_at ends v) (time_at after j) ≤ t)
        by_way t (inl ends_so) = let by = end_by v (time_at ends v) t first ends_so in (omega (arith, by.0), omega (arith, by.1))
        by_way t (inr d) = let by = descent_by j t lt (subst (λ x. DescendsBy n h g l starts dep x t) (sym at) d) in (omega (arith, by.0), omega (arith, by.1))

      pub node_arrival : (arrival : Option ℕ) → IsDelayAt s.nodes.items ends after v dep arrival → IsArrival k l starts (target_numbers h v) dep None arrival
      node_arrival arrival (inl (time, off)) = arrival_is k l starts (target_numbers h v) dep (time_at ends v) arrival (alone off) time
      node_arrival arrival (inr (j, lt, at, time)) = arrival_is k l starts (target_numbers h v) dep (min (time_at ends v) (time_at after j)) arrival (on_place j lt at) time

-- ---- what is asked and answered

pub starts_within : (n : NetworkLists) (h : HierarchyLists) (g : GraphMeaning) → IsInUse n (Some h) [] g → (origins : List ℕ) → All (λ v. v < length (nodes_of n)) origins → All (λ p. p < g.nodes) (starts_in (Some h) origins)
starts_within n h g in_use origins within k d lt =
    let p = slice_index_or (starts_in (Some h) origins) k d in
    let from = starts_under (Some h) origins p (All-contains_itself (starts_in (Some h) origins) k d lt) in
    let low : node_of p < length (nodes_of n) = subst (λ v. v < length (nodes_of n)) from.2 (within from.0 (node_of p) from.1) in
    let count : g.nodes ≡ 2 * length (nodes_of n) = ap (λ (x : GraphMeaning). x.nodes) in_use.is in
    omega arith

-- labels of what is reached are at nodes of the phase graph, in states of the automaton
pub labels_known : (n : NetworkLists) (h : HierarchyLists) → IsNetwork n → IsHierarchy h → IsSound n h → (l : LabelsMeaning) → IsLawfulLabels l → (g : GraphMeaning) → IsInUse n (Some h) [] g → (origins : List ℕ) (dep : ℕ) (labels : List Label)
    → All (λ v. v < length (nodes_of n)) origins → AreReachedLabels g l (starts_in (Some h) origins) dep labels → All (IsKnownLabel n l) labels
labels_known n h network rules sound l lawful g in_use origins dep labels within reach k d lt =
    let r = reach.reached k d lt in
    let graph = graphs_in_use_are_lawful n network (Some h) (rules, sound) [] g in_use in
    let count : g.nodes ≡ 2 * length (nodes_of n) = ap (λ (x : GraphMeaning). x.nodes) in_use.is in
    let start = All-contains (λ p. p < g.nodes) (starts_in (Some h) origins) r.start (starts_within n h g in_use origins within) r.starts_there in
    (subst (λ m. (slice_index_or labels k d).node < m) count (walk_stays g graph l lawful r.steps r.start dep _ _ start r.walk), reached_state g l lawful (starts_in (Some h) origins) dep _ _ _ r)

-- the times at the nodes of numbers are the arrivals there
pub node_arrivals : (n : NetworkLists) (h : HierarchyLists) → IsNetwork n → IsHierarchy h → IsSound n h → (l : LabelsMeaning) → IsLawfulLabels l → IsRoadLabels l → (g : GraphMeaning) → IsInUse n (Some h) [] g
    → (s : Slope) → IsSlopeOf h s.nodes.items s → (origins : List ℕ) (dep : ℕ) (labels : List Label)
    → AreReachedLabels g l (starts_in (Some h) origins) dep labels → (d : Delays) → AreDelays n s.nodes.items l dep labels d
    → (after : List ℕ) → AreSwept s d.tops.items after → (ends : List ℕ) → All (λ p. IsServedOn n h s.nodes.items (node_of p)) ends → (times : List (Option ℕ)) → AreTimesAfter s.nodes.items d.ends.items after dep ends times
    → AreNodeArrivals n h l (starts_in (Some h) origins) dep ends times
node_arrivals n h network rules sound l lawful road g above s slope origins dep labels reach d delays after swept ends served times are = record {
  one_each = are.one_each;
  are = λ k lt targets all in_use there. (
      let v = node_of (slice_index ends k) in
      let here = served k 0 lt in
      node_arrival n h network rules sound l lawful road g above s slope origins dep labels reach delays.small d.tops.items after delays.tops swept.walked swept.closed swept.room
      v here d.ends.items (delays.ends v here.0) targets all in_use there (slice_index_or times k None) (are.are k lt)
      );
}
