-- The labels of starts and of climbs from there are what walks over the core begin with.
use Rattle.plan_base.proofs.Common.{◌≡◌, ◌∙◌, ℕ, ◌+◌, ◌<◌, ◌⊎◌, inl, inr, false, None, Some, List, [], ◌∷◌, ◌++◌, refl, sym, ap, subst, arith, All-contains, All-contains_itself, All-nil, Contains, Contains-push_cases, IsTrue, cases_eq, cases_lt}
use Rattle.search_laws.specs.{GraphMeaning, IsLawfulLabels, IsRoadLabels, HasMove}
use Rattle.search_laws.proofs.WalkLemmas.{one_after}
use Rattle.mode_network.specs.{NetworkLists.NetworkLists, letter_at, IsNetwork}
use Rattle.mode_network.proofs.RuleLemmas.{letter_is_road, some_is}
use Rattle.hierarchy.specs.{HierarchyLists, HasEntry, IsAbove, IsContracted, IsCore, IsHierarchy}
use Rattle.product_search.specs.{Label, label_of, ArcIsListed, IsListedBy}
use Rattle.product_search.proofs.ClosureLemmas.{all_after}
use Rattle.phase_graph.specs.{IsRise, phase_node, node_of, InUseGraph.meaning_in_use, InUseGraph.steady_in_use}
use Rattle.phase_graph.proofs.GraphLemmas.{half}
use Rattle.sweeps.proofs.EntryLemmas.{Contains-from_map}
use Rattle.rounds.specs.{AreRounds, AreStarts}
use Rattle.rounds.specs.inside.{AddsLabels, AreClimbs, AreFirstsOf, AreTurns, AskedMeaning, Climb, ClimbsTo, HasClimb, IsClimbedBy, IsClimbLabel, IsFirstTurn, IsOfAny, IsStartLabel, IsTurn, Reaches, Turn}
use Rattle.rounds.proofs.{ArcLemmas.rise_to, ArcLemmas.stand_to, LabelLemmas.stays, ListLemmas.adds_more, ListLemmas.adds_one, ListLemmas.adds_same, ListLemmas.reached_inside, WalkLemmas.hops_letter, WalkLemmas.hops_on, WalkLemmas.stands_on}

-- ---- start states

module _ (a : AskedMeaning) (p : ℕ) where
  -- in one of the first so many states
  abbrev pub IsStartBelow : ℕ → Label → Type 0
  IsStartBelow n x = (l : IsStartLabel a p x) × (l.first < n)

  module _ (n : ℕ) (old now : List Label) (so_far : AddsLabels (IsStartBelow n) old now) where
    -- one state more, which is a start state
    pub start_more : n < a.labels.states → IsTrue (a.labels.is_start n) → AddsLabels (IsStartBelow (n + 1)) old (now ++ label_of p n a.dep ∷ [])
    start_more state is_start =
        adds_more (IsStartBelow n) (λ x. x ≡ label_of p n a.dep) (IsStartBelow (n + 1)) old now (now ++ label_of p n a.dep ∷ []) so_far (adds_one now (label_of p n a.dep)) (λ x l. (l.0, omega (arith, l.1)))
        (λ x is. (record { first = n; is_state = state; is_start = is_start; is = is }, omega arith))
        (λ x l. elim (cases_eq l.0.first n) [ inl same ↦ inr (l.0.is ∙ ap (λ q. label_of p q a.dep) same) | inr other ↦ inl (l.0, omega (arith, l.1, other)) ])

    -- or which is none
    pub start_passes : (IsTrue (a.labels.is_start n) → ⊥) → AddsLabels (IsStartBelow (n + 1)) old now
    start_passes none =
        adds_same (IsStartBelow n) (IsStartBelow (n + 1)) old now so_far (λ x l. (l.0, omega (arith, l.1)))
        (λ x l. elim (cases_eq l.0.first n) [ inl same ↦ absurd (none (subst (λ q. IsTrue (a.labels.is_start q)) same l.0.is_start)) | inr other ↦ (l.0, omega (arith, l.1, other)) ])

-- ---- what is first

-- in the beginning there are none
pub no_firsts : (a : AskedMeaning) → AreFirstsOf a [] []
no_firsts a = record {
  before = All-nil (λ (x : Label). x.node ≡ phase_node (node_of x.node) false);
  reached = All-nil (λ (x : Label). Reaches a x.node x.state x.at);
  starts = λ p q none. absurd (omega (arith, none.1));
  further = λ x i none. absurd (omega (arith, none.1));
}

-- what asks, lawfully, with the turns of its labels
pub record AreAsked (a : AskedMeaning) (turns : List Turn) : Type 0 where
  pub network : IsNetwork a.rounds.network.now
  pub rules : IsHierarchy a.rounds.hierarchy.now
  pub rounds : AreRounds a.rounds
  pub starts : AreStarts a.rounds a.starts
  pub lawful : IsLawfulLabels a.labels
  pub road : IsRoadLabels a.labels
  pub turns_are : AreTurns a.labels turns

module _ {a : AskedMeaning} {turns : List Turn} (e : AreAsked a turns) where
  abbrev n : NetworkLists
  n = a.rounds.network.now

  abbrev h : HierarchyLists
  h = a.rounds.hierarchy.now

  abbrev g : GraphMeaning
  g = meaning_in_use a.rounds.graph

  -- climbs are over entries that lead up
  climbs_rise : (u v w : ℕ) → ClimbsTo h u v w → HasEntry h.entries u v w × IsRise h u v
  climbs_rise u v w climbs = (climbs.0, inl climbs.1)

  -- no crossing is contracted
  none_crosses : (v : ℕ) → IsContracted h.order v → Contains a.rounds.crossings.items v → ⊥
  none_crosses v low there = (let core = All-contains (IsCore h.order) a.rounds.crossings.items v e.rounds.crossings there in omega (arith, low, core))

  -- the arcs of a contracted node lead to labels, if entries up and what stands do
  arc_listed : (labels : List Label) (v q t : ℕ) → IsContracted h.order v → Reaches a (phase_node v false) q t → Contains labels (label_of (phase_node v false) q t)
      → ((w weight c s : ℕ) → ClimbsTo h v w weight → letter_at n.roads v ≡ Some c → HasMove a.labels q c s → IsListedBy labels (phase_node w false) s (t + weight))
      → ((c s : ℕ) → letter_at n.roads v ≡ Some c → HasMove a.labels q c s → IsListedBy labels (phase_node v false) s t)
      → (i : ℕ) → i < g.arcs (phase_node v false) → ArcIsListed g a.labels None labels (label_of (phase_node v false) q t) i
  arc_listed labels v q t low reached there on stay i lt u arrives before =
      let p = phase_node v false in
      all_after a.labels q (g.arc_at p i).letter (λ s. IsListedBy labels (g.arc_at p i).to s u) (λ s follows. elim (cases_lt i (steady_in_use a.rounds.graph p)) [
        | inl steady ↦ rise_to a.rounds e.rounds e.network e.rules a.labels (IsListedBy labels) v q t (λ w weight c s entry rises. on w weight c s (entry, above w rises)) i u s steady arrives follows
        | inr past ↦ stand_to a.rounds e.rounds e.network e.rules a.labels (IsListedBy labels) v q t (none_crosses v low) (t, omega arith, there) stay i u s past
            (record { node = reached_inside a e.rounds e.starts e.lawful p q t reached; arc = lt }) arrives follows
      ])
    where
      above : (w : ℕ) → IsRise h v w → IsAbove h.order w v
      above w (inl up) = up
      above w (inr core) = absurd (omega (arith, low, core.0))

  -- ---- a start

  -- it is the number of a node before any descent
  number : (p : ℕ) → Contains a.starts p → p ≡ phase_node (node_of p) false
  number p there =
      let from = Contains-from_map (λ v. phase_node v false) e.starts.origins p (subst (λ xs. Contains xs p) e.starts.are there) in
      omega (arith, from.2)

  module _ (p : ℕ) (there : Contains a.starts p) (climbs : List Climb) (climbs_are : AreClimbs h (node_of p) climbs) where
    abbrev v : ℕ
    v = node_of p

    start_reached : (q : ℕ) → q < a.labels.states → IsTrue (a.labels.is_start q) → Reaches a (phase_node v false) q a.dep
    start_reached q state is_start =
        subst (λ x. Reaches a x q a.dep) (number p there) (record { start = p; first = q; steps = []; starts_there = there; is_state = state; is_start = is_start; walk = (refl, refl); reads = refl })

    turn_is : (turn : Turn) → Contains turns turn → IsTurn a.labels turn
    turn_is turn = All-contains (IsTurn a.labels) turns turn e.turns_are.are

    -- climbs are reached in the states of turns that begin there
    pub climb_reached : (turn : Turn) → Contains turns turn → IsFirstTurn a v turn → (w ms : ℕ) → HasClimb h v w ms → Reaches a (phase_node w false) turn.state (a.dep + ms)
    climb_reached turn is_turn first w ms climb =
        let source = All-contains (λ q. (q < a.labels.states) × HasMove a.labels q turn.letter turn.state) turn.sources.items first.first (turn_is turn is_turn).sources first.source in
        let stood = stands_on a e.rounds e.network e.rules v first.first a.dep turn.state turn.letter (start_reached first.first source.0 first.is_start) first.letter source.1 in
        subst (λ t. Reaches a (phase_node w false) turn.state (a.dep + t)) climb.weighs
        (hops_on a e.rounds e.network e.rules (ClimbsTo h) climbs_rise climb.hops v w turn.state a.dep turn.letter stood first.letter (turn_is turn is_turn).stays climb.walk)

    module _ (old mid new : List Label) (with_start : AddsLabels (IsStartLabel a p) old mid) (with_climbs : AddsLabels (IsOfAny (IsClimbLabel a v climbs) turns) mid new) where
      -- a label is an old one, that of the start, or that of a climb
      kind : (x : Label) → Contains new x → Contains old x ⊎ IsStartLabel a p x ⊎ IsOfAny (IsClimbLabel a v climbs) turns x
      kind x has = elim (All-contains (λ y. Contains mid y ⊎ IsOfAny (IsClimbLabel a v climbs) turns y) new x with_climbs.new has) [
        | inr climb ↦ inr (inr climb)
        | inl before ↦ elim (All-contains (λ y. Contains old y ⊎ IsStartLabel a p y) mid x with_start.new before) [ inl there ↦ inl there | inr start ↦ inr (inl start) ]
      ]

      -- old labels are there still
      stays_there : (x : Label) → Contains old x → Contains new x
      stays_there x has = All-contains (Contains new) mid x with_climbs.kept (All-contains (Contains mid) old x with_start.kept has)

      -- climbs have labels in the states of turns that begin at the start
      climb_listed : (turn : Turn) → Contains turns turn → IsFirstTurn a v turn → (w ms : ℕ) → IsClimbedBy climbs w ms → IsListedBy new (phase_node w false) turn.state (a.dep + ms)
      climb_listed turn is_turn first w ms (climb, has, at, by) = (
        a.dep + climb.ms,
        omega (arith, by),
        subst (λ u. Contains new (label_of (phase_node u false) turn.state (a.dep + climb.ms))) at (with_climbs.all _ (turn, is_turn, (first, (climb, has, refl)))),
      )

      -- so they have in all states after the start states
      first_listed : (q c r : ℕ) → q < a.labels.states → IsTrue (a.labels.is_start q) → letter_at n.roads v ≡ Some c → HasMove a.labels q c r → (w ms : ℕ) → IsClimbedBy climbs w ms
          → IsListedBy new (phase_node w false) r (a.dep + ms)
      first_listed q c r state is_start letter move w ms climbed =
          let by = e.turns_are.all q c r state (letter_is_road n e.network v c letter).1 move in
          let first : IsFirstTurn a v by.0 = record { letter = letter ∙ ap Some (sym by.2); first = q; source = by.4; is_start = is_start } in
          subst (λ s. IsListedBy new (phase_node w false) s (a.dep + ms)) by.3 (climb_listed by.0 by.1 first w ms climbed)

      -- what the arcs of the start lead to has a label
      start_on : (q : ℕ) → q < a.labels.states → IsTrue (a.labels.is_start q) → Contains new (label_of (phase_node v false) q a.dep) → IsContracted h.order v → (i : ℕ) → i < g.arcs (phase_node v false)
          → ArcIsListed g a.labels None new (label_of (phase_node v false) q a.dep) i
      start_on q state is_start has low =
          let (own, own_there, own_is, own_by) = climbs_are.own in
          arc_listed new v q a.dep low (start_reached q state is_start) has
          (λ w weight c s climbs_on letter move. first_listed q c s state is_start letter move w weight
          (let (climb, has, is, by) = climbs_are.further own w weight own_there (subst (λ x. ClimbsTo h x w weight) (sym own_is) climbs_on) in (climb, has, is, omega (arith, by, own_by))))
          (λ c s letter move. subst (IsListedBy new (phase_node v false) s) (omega arith) (first_listed q c s state is_start letter move v 0 climbs_are.own))

      -- so has what those of a climb do
      climb_on : (turn : Turn) → Contains turns turn → IsFirstTurn a v turn → (climb : Climb) → Contains climbs climb → IsContracted h.order climb.node → (i : ℕ) → i < g.arcs (phase_node climb.node false)
          → ArcIsListed g a.labels None new (label_of (phase_node climb.node false) turn.state (a.dep + climb.ms)) i
      climb_on turn is_turn first climb has low =
          let is = All-contains (λ (c : Climb). HasClimb h v c.node c.ms) climbs climb climbs_are.are has in
          let own : IsListedBy new (phase_node climb.node false) turn.state (a.dep + climb.ms) = climb_listed turn is_turn first climb.node climb.ms (climb, has, refl, omega arith) in
          arc_listed new climb.node turn.state (a.dep + climb.ms) low (climb_reached turn is_turn first climb.node climb.ms is) (with_climbs.all _ (turn, is_turn, (first, (climb, has, refl))))
          (λ w weight c s climbs_on letter move. subst (λ r. IsListedBy new (phase_node w false) r ((a.dep + climb.ms) + weight)) (sym (same_state c s is letter move)) (subst (IsListedBy new (phase_node w false) turn.state) (omega arith)
          (climb_listed turn is_turn first w (climb.ms + weight) (climbs_are.further climb w weight has climbs_on))))
          (λ c s letter move. subst (λ r. IsListedBy new (phase_node climb.node false) r (a.dep + climb.ms)) (sym (same_state c s is letter move)) own)
        where
          same_state : (c s : ℕ) → HasClimb h v climb.node climb.ms → letter_at n.roads climb.node ≡ Some c → HasMove a.labels turn.state c s → s ≡ turn.state
          same_state c s is letter move =
              let t = turn_is turn is_turn in
              let there = hops_letter a e.rounds e.network e.rules (ClimbsTo h) climbs_rise is.hops v climb.node turn.letter first.letter is.walk in
              let same : c ≡ turn.letter = some_is (sym letter ∙ there) in
              stays a.labels e.road turn.state turn.letter s t.state t.letter t.stays (subst (λ k. HasMove a.labels turn.state k s) same move)

      module _ (these : List ℕ) (before : AreFirstsOf a these old) where
        -- each label is before any descent
        high : (x : Label) → Contains old x ⊎ IsStartLabel a p x ⊎ IsOfAny (IsClimbLabel a v climbs) turns x → x.node ≡ phase_node (node_of x.node) false
        high x (inl was) = All-contains (λ (y : Label). y.node ≡ phase_node (node_of y.node) false) old x before.before was
        high x (inr (inl start)) = subst (λ (y : Label). y.node ≡ phase_node (node_of y.node) false) (sym start.is) (number p there)
        high x (inr (inr (turn, is_turn, (first, (climb, has, is))))) = subst (λ (y : Label). y.node ≡ phase_node (node_of y.node) false) (sym is) (ap (λ u. phase_node u false) (sym (half climb.node false)))

        -- and reached
        reached : (x : Label) → Contains old x ⊎ IsStartLabel a p x ⊎ IsOfAny (IsClimbLabel a v climbs) turns x → Reaches a x.node x.state x.at
        reached x (inl was) = All-contains (λ (y : Label). Reaches a y.node y.state y.at) old x before.reached was
        reached x (inr (inl start)) =
            subst (λ (y : Label). Reaches a y.node y.state y.at) (sym start.is) (subst (λ y. Reaches a y start.first a.dep) (sym (number p there)) (start_reached start.first start.is_state start.is_start))
        reached x (inr (inr (turn, is_turn, (first, (climb, has, is))))) = subst (λ (y : Label). Reaches a y.node y.state y.at) (sym is)
            (climb_reached turn is_turn first climb.node climb.ms (All-contains (λ (c : Climb). HasClimb h v c.node c.ms) climbs climb climbs_are.are has))

        -- what it leads to has a label
        listed : (x : Label) (i : ℕ) → Contains new x → IsContracted h.order (node_of x.node) → i < g.arcs x.node → Contains old x ⊎ IsStartLabel a p x ⊎ IsOfAny (IsClimbLabel a v climbs) turns x
            → ArcIsListed g a.labels None new x i
        listed x i has low lt (inl was) = λ u arrives early.
            all_after a.labels x.state (g.arc_at x.node i).letter (λ s. IsListedBy new (g.arc_at x.node i).to s u) (λ s follows.
            (let l = one_after a.labels (g.arc_at x.node i).letter x.state s (λ r. IsListedBy old (g.arc_at x.node i).to r u) (before.further x i was low lt u arrives early) follows in (l.0, l.1, stays_there _ l.2)))
        listed x i has low lt (inr (inl start)) =
            let is : x ≡ label_of (phase_node v false) start.first a.dep = start.is ∙ ap (λ y. label_of y start.first a.dep) (number p there) in
            subst (λ (y : Label). IsContracted h.order (node_of y.node) → Contains new y → i < g.arcs y.node → ArcIsListed g a.labels None new y i) (sym is)
            (λ low has lt. start_on start.first start.is_state start.is_start has (subst (IsContracted h.order) (half v false) low) i lt) low has lt
        listed x i has low lt (inr (inr (turn, is_turn, (first, (climb, of, is))))) =
            subst (λ (y : Label). IsContracted h.order (node_of y.node) → i < g.arcs y.node → ArcIsListed g a.labels None new y i) (sym is)
            (λ low lt. climb_on turn is_turn first climb of (subst (IsContracted h.order) (half climb.node false) low) i lt) low lt

        -- so with one start more they are first labels
        pub firsts_more : AreFirstsOf a (these ++ p ∷ []) new
        firsts_more = record {
          before = λ k d lt. high _ (kind _ (All-contains_itself new k d lt));
          reached = λ k d lt. reached _ (kind _ (All-contains_itself new k d lt));
          starts = λ s q has state is_start. elim (Contains-push_cases these p s has) [
            | inl was ↦ (let l = before.starts s q was state is_start in (l.0, l.1, stays_there _ l.2))
            | inr same ↦ (a.dep, omega arith, All-contains (Contains new) mid _ with_climbs.kept (with_start.all _ (record { first = q; is_state = state; is_start = is_start; is = ap (λ s. label_of s q a.dep) (sym same) })))
          ];
          further = λ x i has low lt. listed x i has low lt (kind x has);
        }
