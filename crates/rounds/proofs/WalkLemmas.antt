-- Walks that are fed from crossings, swept and given back.
use Rattle.plan_base.proofs.Common.{◌≡◌, ◌∙◌, ℕ, ◌+◌, ◌<◌, ◌≤◌, ◌⊎◌, inl, inr, false, Some, List, [], ◌∷◌, length, get_or, take, refl, sym, ap, subst, subst₂, arith, Vec, Global, All, Contains, All-contains, All-more, All-weaker, Contains-get_or, same_Some, slice_index, slice_get, set, ◌≢◌, cases_eq, length-set}
use Rattle.search_laws.specs.{GraphMeaning, HasMove, Follows, Leg}
use Rattle.mode_network.specs.{NetworkLists.NetworkLists, letter_at, IsNetwork}
use Rattle.hierarchy.specs.{Hop, AreHops, total, HierarchyLists, HasEntry, IsHierarchy}
use Rattle.phase_graph.specs.{rise, stand, phase_node, IsRise, IsPhaseGraph, meaning_in_use}
use Rattle.phase_graph.proofs.{GraphMoves.is_phase_graph, MoveLemmas.same_mode}
use Rattle.sweeps.specs.{time_at, LeadsBetween, AreWalked, row_at, leg_by}
use Rattle.sweeps.proofs.EntryLemmas.{hop_by}
use Rattle.rounds.specs.{Layers.Gate, Layers.CoreLayer, CoreLeads, IsCoreIn, IsCoreLayer, IsGate, AreGates, AreRounds}
use Rattle.rounds.specs.inside.{row_of, cell, never, AreLowered, IsRowLowered, AskedMeaning, Reaches, IsLayerOf, Turn, IsTurn, node_at, IsWalkReached, AreWalksReached, IsWalkClosed, AreWalksClosed, AreWalkedBelow, AreCrossingsReached, IsWalked, IsWalkOf, IsTakenIn, IsFedBy, IsGivenBack}
use Rattle.rounds.proofs.{MoveLemmas.reached_on, RowLemmas.row-set_same, RowLemmas.row-set_other, RowLemmas.row_same, RowLemmas.row_then, RowLemmas.row_weaker, RowLemmas.lowered_then, RowLemmas.lowered_weaker, RowLemmas.shape_stays}

-- ---- gates

module _ (gates : List Gate) (k : ℕ) (d : Gate) (lt : k < length gates) where
  abbrev this : Gate
  this = get_or gates k d

  -- one gate more is taken in
  module _ (from before now next : List ℕ) (more : IsRowLowered (λ i t. (i ≡ this.place) × (t ≡ time_at from this.crossing)) now next) where
    pub taken_more : IsRowLowered (IsTakenIn gates from) before now → IsRowLowered (IsTakenIn gates from) before next
    taken_more lowered =
        row_then (IsTakenIn gates from) before now next lowered
        (row_weaker (λ i t. (i ≡ this.place) × (t ≡ time_at from this.crossing)) (IsTakenIn gates from) now next (λ i t p. (this, Contains-get_or gates k d lt, p.0, p.1)) more)

    pub fed_more : time_at next this.place ≤ time_at from this.crossing → All (λ (x : Gate). time_at now x.place ≤ time_at from x.crossing) (take k gates)
        → All (λ (x : Gate). time_at next x.place ≤ time_at from x.crossing) (take (k + 1) gates)
    fed_more here fed =
        All-more (λ (x : Gate). time_at next x.place ≤ time_at from x.crossing) gates k d lt
        (All-weaker (λ (x : Gate). time_at now x.place ≤ time_at from x.crossing) (λ (x : Gate). time_at next x.place ≤ time_at from x.crossing) (λ x le. omega (arith, le, more.no_later x.place)) (take k gates) fed) here

  -- one gate more is given back
  module _ (state : ℕ) (walk : List ℕ) (before now next : List (Vec ℕ Global)) (more : AreLowered (λ q j t. (q ≡ state) × (j ≡ this.crossing) × (t ≡ time_at walk this.place)) now next) where
    pub given_more : AreLowered (IsGivenBack state gates walk) before now → AreLowered (IsGivenBack state gates walk) before next
    given_more lowered =
        lowered_then (IsGivenBack state gates walk) before now next lowered
        (lowered_weaker (λ q j t. (q ≡ state) × (j ≡ this.crossing) × (t ≡ time_at walk this.place)) (IsGivenBack state gates walk) now next (λ q j t p. (this, Contains-get_or gates k d lt, p.0, p.1, p.2)) more)

    pub returned_more : cell next state this.crossing ≤ time_at walk this.place → All (λ (x : Gate). cell now state x.crossing ≤ time_at walk x.place) (take k gates)
        → All (λ (x : Gate). cell next state x.crossing ≤ time_at walk x.place) (take (k + 1) gates)
    returned_more here returned =
        All-more (λ (x : Gate). cell next state x.crossing ≤ time_at walk x.place) gates k d lt
        (All-weaker (λ (x : Gate). cell now state x.crossing ≤ time_at walk x.place) (λ (x : Gate). cell next state x.crossing ≤ time_at walk x.place) (λ x le. omega (arith, le, more.no_later state x.crossing)) (take k gates) returned) here

-- one source more feeds
module _ (turn : Turn) (gates : List Gate) (crossings : List (Vec ℕ Global)) (k q : ℕ) (lt : k < length turn.sources.items) (is : q ≡ get_or turn.sources.items k 0) (from before now next : List ℕ)
    (row : from ≡ row_of crossings q) (more : IsRowLowered (IsTakenIn gates from) now next) where
  abbrev AreFed : List ℕ → ℕ → Type 0
  AreFed walk s = All (λ (x : Gate). time_at walk x.place ≤ cell crossings s x.crossing) gates

  pub source_more : IsRowLowered (IsFedBy turn gates crossings) before now → IsRowLowered (IsFedBy turn gates crossings) before next
  source_more lowered =
      row_then (IsFedBy turn gates crossings) before now next lowered
      (row_weaker (IsTakenIn gates from) (IsFedBy turn gates crossings) now next
      (λ i t p. (q, subst (Contains turn.sources.items) (sym is) (Contains-get_or turn.sources.items k 0 lt), subst (λ (xs : List ℕ). IsTakenIn gates xs i t) row p)) more)

  pub sources_fed : All (λ (x : Gate). time_at next x.place ≤ time_at from x.crossing) gates → All (AreFed now) (take k turn.sources.items) → All (AreFed next) (take (k + 1) turn.sources.items)
  sources_fed here fed =
      All-more (AreFed next) turn.sources.items k 0 lt
      (All-weaker (AreFed now) (AreFed next) (λ s are. All-weaker (λ (x : Gate). time_at now x.place ≤ cell crossings s x.crossing) (λ (x : Gate). time_at next x.place ≤ cell crossings s x.crossing)
      (λ x le. omega (arith, le, more.no_later x.place)) gates are) (take k turn.sources.items) fed)
      (subst (AreFed next) is (subst (λ (xs : List ℕ). All (λ (x : Gate). time_at next x.place ≤ time_at xs x.crossing) gates) row here))

-- ---- what is reached

module _ (a : AskedMeaning) (are : AreRounds a.rounds) (network : IsNetwork a.rounds.network.now) (rules : IsHierarchy a.rounds.hierarchy.now) where
  abbrev n : NetworkLists
  n = a.rounds.network.now

  abbrev h : HierarchyLists
  h = a.rounds.hierarchy.now

  abbrev g : GraphMeaning
  g = meaning_in_use a.rounds.graph

  phases : IsPhaseGraph n h [] g
  phases =
      let in_use = are.in_use in
      subst (IsPhaseGraph n h []) (sym in_use.is) (is_phase_graph n h [] network rules are.sound in_use.table in_use.keeps in_use.of in_use.marks in_use.are)

  -- where the letter of a road node is read, one may stand there
  pub stands_on : (v q t r letter : ℕ) → Reaches a (phase_node v false) q t → letter_at n.roads v ≡ Some letter → HasMove a.labels q letter r → Reaches a (phase_node v false) r t
  stands_on v q t r letter reached is move = reached_on n h [] g phases a.labels a.starts a.dep stand v false t q v false t r (Some letter) reached (letter, is, refl, refl, refl, refl) move

  -- and where an entry leads up or along the core, one may go on
  rises_on : (u v w q t r letter : ℕ) → Reaches a (phase_node u false) q t → HasEntry h.entries u v w → IsRise h u v → letter_at n.roads u ≡ Some letter → HasMove a.labels q letter r → Reaches a (phase_node v false) r (t + w)
  rises_on u v w q t r letter reached entry rises is move =
      reached_on n h [] g phases a.labels a.starts a.dep (rise (hop_by v w)) u false t q v false (t + w) r (letter_at n.roads u) reached (refl, entry, rises, refl, refl, refl, refl)
      (subst (λ o. Follows a.labels q o r) (sym is) move)

  -- so may one over many, where the letter can be read again
  module _ (Leads : ℕ → ℕ → ℕ → Type 0) (rises : (u v w : ℕ) → Leads u v w → HasEntry h.entries u v w × IsRise h u v) where
    pub hops_on : (hops : List Hop) (u v q t letter : ℕ) → Reaches a (phase_node u false) q t → letter_at n.roads u ≡ Some letter → HasMove a.labels q letter q → AreHops Leads u hops v
        → Reaches a (phase_node v false) q (t + total hops)
    hops_on [] u v q t letter reached is stays walk = subst₂ (λ x s. Reaches a (phase_node x false) q s) (sym walk) (omega arith) reached
    hops_on (hop ∷ hops) u v q t letter reached is stays (leads, walk) =
        let on = rises u hop.to hop.weight leads in
        let sum : (t + hop.weight) + total hops ≡ t + (hop.weight + total hops) = omega arith in
        subst (Reaches a (phase_node v false) q) sum
        (hops_on hops hop.to v q (t + hop.weight) letter (rises_on u hop.to hop.weight q t q letter reached on.0 on.1 is stays) (same_mode n h are.sound [] u hop.to hop.weight letter on.0 is) stays walk)

    -- which stays that of the nodes
    pub hops_letter : (hops : List Hop) (u v letter : ℕ) → letter_at n.roads u ≡ Some letter → AreHops Leads u hops v → letter_at n.roads v ≡ Some letter
    hops_letter [] u v letter is walk = ap (letter_at n.roads) walk ∙ is
    hops_letter (hop ∷ hops) u v letter is (leads, walk) = hops_letter hops hop.to v letter (same_mode n h are.sound [] u hop.to hop.weight letter (rises u hop.to hop.weight leads).0 is) walk

  module _ (turn : Turn) (is_turn : IsTurn a.labels turn) (layer : CoreLayer) (is_layer : IsLayerOf a turn.letter layer) where
    abbrev nodes : List ℕ
    nodes = layer.sheet.slope.nodes.items

    core : IsCoreLayer n h turn.letter layer.sheet
    core = (are.layers turn.letter layer is_layer).0

    gates : AreGates nodes a.rounds.crossings.items layer.gates.items
    gates = (are.layers turn.letter layer is_layer).1

    letter_is : (i : ℕ) → i < length nodes → letter_at n.roads (node_at layer i) ≡ Some turn.letter
    letter_is i lt = (All-contains (IsCoreIn n h turn.letter) nodes (node_at layer i) core.core (Contains-get_or nodes i 0 lt)).1

    -- the ends of a leg are places
    pub ends_within : (i j w : ℕ) → LeadsBetween layer.sheet i j w → (i < length nodes) × (j < length nodes)
    ends_within i j w (inl up) = (up.0, (All-contains (λ (leg : Leg). (i < leg.to) × (leg.to < length nodes)) (row_at layer.sheet.ups i) (leg_by j w) (layer.sheet.ups_on i up.0) up.1).1)
    ends_within i j w (inr down) = ((All-contains (λ (leg : Leg). (j < leg.to) × (leg.to < length nodes)) (row_at layer.sheet.slope.downs j) (leg_by i w) (layer.sheet.slope.downs_on j down.0) down.1).1, down.0)

    start_within : (hops : List Hop) (i j : ℕ) → j < length nodes → AreHops (LeadsBetween layer.sheet) i hops j → i < length nodes
    start_within [] i j lt walk = omega (arith, walk)
    start_within (hop ∷ hops) i j lt (leads, walk) = (ends_within i hop.to hop.weight leads).0

    -- legs lead on from what is reached
    legs_on : (hops : List Hop) (i j t : ℕ) → i < length nodes → Reaches a (phase_node (node_at layer i) false) turn.state t → AreHops (LeadsBetween layer.sheet) i hops j
        → Reaches a (phase_node (node_at layer j) false) turn.state (t + total hops)
    legs_on [] i j t lt reached walk = subst₂ (λ x s. Reaches a (phase_node (node_at layer x) false) turn.state s) (sym walk) (omega arith) reached
    legs_on (hop ∷ hops) i j t lt reached (leads, walk) =
        let along = core.legs i hop.to hop.weight leads in
        let next = hops_on (CoreLeads h) (λ u v w leads. (leads.0, inr (leads.1, leads.2))) along.hops (node_at layer i) (node_at layer hop.to) turn.state t turn.letter reached (letter_is i lt) is_turn.stays along.walk in
        let sum : (t + total along.hops) + total hops ≡ t + (hop.weight + total hops) = omega (arith, along.weighs) in
        subst (Reaches a (phase_node (node_at layer j) false) turn.state) sum (legs_on hops hop.to j (t + total along.hops) (ends_within i hop.to hop.weight leads).1 next walk)

    -- a walk that is swept is reached
    pub swept_reached : (before after : List ℕ) → IsWalkReached a turn layer before → AreWalked (LeadsBetween layer.sheet) before after → IsWalkReached a turn layer after
    swept_reached before after walk swept = record {
      as_many = swept.as_many ∙ walk.as_many;
      reached = λ i lt some. (let by = swept.walked i in
          let from = start_within by.hops by.start i (omega (arith, lt, swept.as_many, walk.as_many)) by.walk in
          let start = walk.reached by.start (omega (arith, from, walk.as_many)) (omega (arith, some, by.at)) in
          let sum : (a.dep + time_at before by.start) + total by.hops ≡ a.dep + time_at after i = omega (arith, by.at) in
          subst (Reaches a (phase_node (node_at layer i) false) turn.state) sum (legs_on by.hops by.start i (a.dep + time_at before by.start) from start by.walk));
    }

    -- what is reached in a source is reached in its state
    pub source_on : (q i t : ℕ) → Contains turn.sources.items q → i < length nodes → Reaches a (phase_node (node_at layer i) false) q t → Reaches a (phase_node (node_at layer i) false) turn.state t
    source_on q i t has lt reached =
        let by = All-contains (λ s. (s < a.labels.states) × HasMove a.labels s turn.letter turn.state) turn.sources.items q is_turn.sources has in
        stands_on (node_at layer i) q t turn.state turn.letter reached (letter_is i lt) by.1

    -- a walk that is fed is reached
    pub fed_reached : (crossings : List (Vec ℕ Global)) (before after : List ℕ) → AreCrossingsReached a crossings → IsWalkReached a turn layer before → IsRowLowered (IsFedBy turn layer.gates.items crossings) before after
        → IsWalkReached a turn layer after
    fed_reached crossings before after reached walk fed = record {
      as_many = fed.as_many ∙ walk.as_many;
      reached = λ i lt some. elim (fed.by i) [
        | inl stays ↦ subst (λ t. Reaches a (phase_node (node_at layer i) false) turn.state (a.dep + t)) (sym stays) (walk.reached i (omega (arith, lt, fed.as_many)) (omega (arith, some, stays)))
        | inr by ↦ from_gate i (time_at after i) by (omega (arith, lt, fed.as_many, walk.as_many)) some
      ];
    } where
      from_gate : (i t : ℕ) → IsFedBy turn layer.gates.items crossings i t → i < length nodes → t < never → Reaches a (phase_node (node_at layer i) false) turn.state (a.dep + t)
      from_gate i t (q, has, (gate, of, at, is)) lt some =
          let by = All-contains (λ s. (s < a.labels.states) × HasMove a.labels s turn.letter turn.state) turn.sources.items q is_turn.sources has in
          let there = All-contains (IsGate nodes a.rounds.crossings.items) layer.gates.items gate gates.are of in
          let crossing = reached.reached q gate.crossing by.0 there.crossing (omega (arith, some, is)) in
          let same : slice_index a.rounds.crossings.items gate.crossing ≡ node_at layer i = sym there.is ∙ ap (node_at layer) (sym at) in
          source_on q i (a.dep + t) has lt (subst₂ (λ v s. Reaches a (phase_node v false) q (a.dep + s)) same (sym is) crossing)

    -- what it gives back is reached
    pub given_reached : (walk : List ℕ) (before after : List (Vec ℕ Global)) → IsWalkReached a turn layer walk → AreCrossingsReached a before → AreLowered (IsGivenBack turn.state layer.gates.items walk) before after
        → AreCrossingsReached a after
    given_reached walk before after is_walk reached given = record {
      shape = shape_stays (IsGivenBack turn.state layer.gates.items walk) a.labels.states (length a.rounds.crossings.items) before after given reached.shape;
      reached = λ q j state within some. elim (given.by q j) [
        | inl stays ↦ subst (λ t. Reaches a (phase_node (slice_index a.rounds.crossings.items j) false) q (a.dep + t)) (sym stays) (reached.reached q j state within (omega (arith, some, stays)))
        | inr by ↦ at_gate q j (cell after q j) by some
      ];
    } where
      at_gate : (q j t : ℕ) → IsGivenBack turn.state layer.gates.items walk q j t → t < never → Reaches a (phase_node (slice_index a.rounds.crossings.items j) false) q (a.dep + t)
      at_gate q j t (gate, of, state, at, is) some =
          let there = All-contains (IsGate nodes a.rounds.crossings.items) layer.gates.items gate gates.are of in
          let place = is_walk.reached gate.place (omega (arith, there.place, is_walk.as_many)) (omega (arith, some, is)) in
          let same : node_at layer gate.place ≡ slice_index a.rounds.crossings.items j = there.is ∙ ap (slice_index a.rounds.crossings.items) (sym at) in
          subst (λ s. Reaches a (phase_node (slice_index a.rounds.crossings.items j) false) s (a.dep + t)) (sym state)
          (subst₂ (λ v s. Reaches a (phase_node v false) turn.state (a.dep + s)) same (sym is) place)

    -- a walk that is closed, fed and given back is walked
    pub walked_now : (walk : List ℕ) (crossings : List (Vec ℕ Global)) → IsWalkClosed layer walk → All (λ q. All (λ (x : Gate). time_at walk x.place ≤ cell crossings q x.crossing) layer.gates.items) turn.sources.items
        → All (λ (x : Gate). cell crossings turn.state x.crossing ≤ time_at walk x.place) layer.gates.items → IsWalked turn layer walk crossings
    walked_now walk crossings closed fed returned = record {
      closed = closed;
      fed = λ q gate has of. All-contains (λ (x : Gate). time_at walk x.place ≤ cell crossings q x.crossing) layer.gates.items gate
          (All-contains (λ q. All (λ (x : Gate). time_at walk x.place ≤ cell crossings q x.crossing) layer.gates.items) turn.sources.items q fed has) of;
      returned = λ gate of. All-contains (λ (x : Gate). cell crossings turn.state x.crossing ≤ time_at walk x.place) layer.gates.items gate returned of;
    }

    -- a walk was fed from crossings, and swept where that changed it
    pub record IsWalkedOn (crossings : List (Vec ℕ Global)) (before after : List ℕ) : Type 0 where
      pub between : List ℕ
      pub fed : IsRowLowered (IsFedBy turn layer.gates.items crossings) before between
      pub all : All (λ q. All (λ (x : Gate). time_at between x.place ≤ cell crossings q x.crossing) layer.gates.items) turn.sources.items
      pub swept : ((between ≡ before) × (after ≡ between)) ⊎ (AreWalked (LeadsBetween layer.sheet) between after × IsWalkClosed layer after)

    module _ (crossings : List (Vec ℕ Global)) (before after : List ℕ) (is : IsWalkedOn crossings before after) where
      pub on_reached : AreCrossingsReached a crossings → IsWalkReached a turn layer before → IsWalkReached a turn layer after
      on_reached reached walk =
          let between = fed_reached crossings before is.between reached walk is.fed in
          elim (is.swept) [
            | inl same ↦ subst (IsWalkReached a turn layer) (sym same.1) between
            | inr swept ↦ swept_reached is.between after between swept.0
          ]

      on_closed : IsWalkClosed layer before → IsWalkClosed layer after
      on_closed closed = elim (is.swept) [
        | inl same ↦ subst (IsWalkClosed layer) (sym (same.1 ∙ same.0)) closed
        | inr swept ↦ swept.1
      ]

      -- it is no later than when it was fed
      no_later : IsRowLowered (λ i t. Unit {0}) is.between after
      no_later = elim (is.swept) [
        | inl same ↦ subst (IsRowLowered (λ i t. Unit {0}) is.between) (sym same.1) (row_same (λ i t. Unit {0}) is.between)
        | inr swept ↦ record { as_many = (swept.0).as_many; no_later = (swept.0).no_later; by = λ i. inr tt }
      ]

      pub on_lowered : IsRowLowered (λ i t. Unit {0}) before after
      on_lowered = row_then (λ i t. Unit {0}) before is.between after (row_weaker (IsFedBy turn layer.gates.items crossings) (λ i t. Unit {0}) before is.between (λ i t p. tt) is.fed) no_later

      pub on_fed : All (λ q. All (λ (x : Gate). time_at after x.place ≤ cell crossings q x.crossing) layer.gates.items) turn.sources.items
      on_fed =
          All-weaker (λ q. All (λ (x : Gate). time_at is.between x.place ≤ cell crossings q x.crossing) layer.gates.items) (λ q. All (λ (x : Gate). time_at after x.place ≤ cell crossings q x.crossing) layer.gates.items)
          (λ q fed. All-weaker (λ (x : Gate). time_at is.between x.place ≤ cell crossings q x.crossing) (λ (x : Gate). time_at after x.place ≤ cell crossings q x.crossing)
          (λ x le. omega (arith, le, no_later.no_later x.place)) layer.gates.items fed) turn.sources.items is.all

      -- so it is one of its turn still
      pub on_walk : AreCrossingsReached a crossings → IsWalkOf a turn before → IsWalkOf a turn after
      on_walk reached walk = record {
        reached = λ other is_other. subst (λ x. IsWalkReached a turn x after) (same_layer other is_other) (on_reached reached (walk.reached layer is_layer));
        closed = λ other is_other. subst (λ x. IsWalkClosed x after) (same_layer other is_other) (on_closed (walk.closed layer is_layer));
      } where
        same_layer : (other : CoreLayer) → IsLayerOf a turn.letter other → layer ≡ other
        same_layer other is_other = same_Some layer other (sym is_layer ∙ is_other)

      -- and walked, where the crossings are as before when it was given back
      pub on_walked : IsWalkOf a turn before → All (λ (x : Gate). cell crossings turn.state x.crossing ≤ time_at after x.place) layer.gates.items → (other : CoreLayer) → IsLayerOf a turn.letter other → IsWalked turn other after crossings
      on_walked walk returned other is_other =
          subst (λ x. IsWalked turn x after crossings) (same_Some layer other (sym is_layer ∙ is_other))
          (walked_now after crossings (on_closed (walk.closed layer is_layer)) on_fed returned)

-- ---- all turns

-- what holds of the row of each turn holds of them where one row is another
pub rows_but_one : (P : Turn → List ℕ → Type 0) (turns : List Turn) (walks : List (Vec ℕ Global)) (k : ℕ) (row : Vec ℕ Global) (turn : Turn) → k < length walks → slice_get turns k ≡ Some turn → P turn row.items
    → (j : ℕ) (other : Turn) → slice_get turns j ≡ Some other → (j ≢ k → P other (row_of walks j)) → P other (row_of (set walks k row) j)
rows_but_one P turns walks k row turn lt is here j other is_other before = elim (cases_eq j k) [
  | inl same ↦ (let there : slice_get turns k ≡ Some other = ap (slice_get turns) (sym same) ∙ is_other in
      let turn_is = same_Some turn other (sym is ∙ there) in
      subst (λ x. P other (row_of (set walks k row) x)) (sym same) (subst (P other) (sym (row-set_same walks k row lt)) (subst (λ x. P x row.items) turn_is here)))
  | inr apart ↦ subst (P other) (sym (row-set_other walks k j row apart)) (before apart)
]

module _ (a : AskedMeaning) (turns : List Turn) (walks : List (Vec ℕ Global)) where
  -- the row of a turn is a walk of it
  pub walk_at : (k : ℕ) (turn : Turn) → slice_get turns k ≡ Some turn → AreWalksReached a turns walks → AreWalksClosed a turns walks → IsWalkOf a turn (row_of walks k)
  walk_at k turn is reached closed = record { reached = λ layer is_layer. reached.1 k turn layer is is_layer; closed = λ layer is_layer. closed k turn layer is is_layer }

  module _ (k : ℕ) (turn : Turn) (row : Vec ℕ Global) (lt : k < length walks) (is : slice_get turns k ≡ Some turn) (walk : IsWalkOf a turn row.items) where
    pub walks_more : AreWalksReached a turns walks → AreWalksReached a turns (set walks k row)
    walks_more reached = (
      length-set walks k row ∙ reached.0,
      λ j other layer is_other is_layer.
          rows_but_one (λ x xs. (y : CoreLayer) → IsLayerOf a x.letter y → IsWalkReached a x y xs) turns walks k row turn lt is walk.reached j other is_other (λ apart y is_y. reached.1 j other y is_other is_y) layer is_layer,
    )

    pub closed_more : AreWalksClosed a turns walks → AreWalksClosed a turns (set walks k row)
    closed_more closed = λ j other layer is_other is_layer.
        rows_but_one (λ x xs. (y : CoreLayer) → IsLayerOf a x.letter y → IsWalkClosed y xs) turns walks k row turn lt is walk.closed j other is_other (λ apart y is_y. closed j other y is_other is_y) layer is_layer

    pub walked_more : (crossings : List (Vec ℕ Global)) → AreWalkedBelow a turns walks crossings k → ((layer : CoreLayer) → IsLayerOf a turn.letter layer → IsWalked turn layer row.items crossings)
        → AreWalkedBelow a turns (set walks k row) crossings (k + 1)
    walked_more crossings before here = λ j other layer below is_other is_layer.
        rows_but_one (λ x xs. (y : CoreLayer) → IsLayerOf a x.letter y → IsWalked x y xs crossings) turns walks k row turn lt is here j other is_other
        (λ apart y is_y. before j other y (omega (arith, below, apart)) is_other is_y) layer is_layer
