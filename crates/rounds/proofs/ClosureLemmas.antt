-- When rounds have come to an end their labels are all that walks reach.
use Rattle.plan_base.proofs.Common.{◌≡◌, ℕ, zero, suc, ◌+◌, ◌*◌, ◌<◌, ◌≤◌, ◌⊎◌, inl, inr, false, List, [], ◌∷◌, length, slice_index, Option, Some, None, refl, sym, ap, subst, arith, Contains, All-contains, cases_eq, cases_lt, Vec, Global}
use Rattle.search_laws.specs.{GraphMeaning, HasArc, LabelsMeaning, IsLawfulLabels, HasMove, Reads, Follows, AllAfter}
use Rattle.search_laws.proofs.WalkLemmas.{earlier_of, one_after, walk_known}
use Rattle.mode_network.specs.{NetworkLists.NetworkLists, nodes_of, letter_at}
use Rattle.hierarchy.specs.{HierarchyLists, height_in, IsContracted, IsCore}
use Rattle.hierarchy.proofs.{HeightLemmas.height_most}
use Rattle.product_search.specs.{Label, IsListedBy, label_of}
use Rattle.product_search.proofs.ClosureLemmas.{all_after}
use Rattle.phase_graph.specs.{IsRise, phase_node, node_of, InUseGraph.meaning_in_use, InUseGraph.steady_in_use, InUseGraph.lawful_in_use}
use Rattle.rounds.specs.{AreReachedLabels}
use Rattle.rounds.specs.inside.{AskedMeaning, Reaches, Turn, node_at, cell, IsCrossedBy, IsWalkLabel, IsCrossingLabel}
use Rattle.rounds.proofs.{ArcLemmas.rise_to, ArcLemmas.stand_to, LabelLemmas.HasPlace, LabelLemmas.HasWalkAt, LabelLemmas.HaveEnded, LabelLemmas.walk_listed, LabelLemmas.crossed_listed, LabelLemmas.crossing_visits, LabelLemmas.walk_on, LabelLemmas.walk_turns, LabelLemmas.crossing_turns, LabelLemmas.first_turns, LabelLemmas.walk_returns, LabelLemmas.first_crosses}

-- a number is in a list, or is not
contains_or_not : (xs : List ℕ) (v : ℕ) → Contains xs v ⊎ (Contains xs v → ⊥)
contains_or_not [] v = inr (λ there. omega (arith, there.1))
contains_or_not (x ∷ xs) v = by_first (cases_eq x v) (contains_or_not xs v)
  where
    by_first : (x ≡ v) ⊎ (x ≡ v → ⊥) → Contains xs v ⊎ (Contains xs v → ⊥) → Contains (x ∷ xs) v ⊎ (Contains (x ∷ xs) v → ⊥)
    by_first (inl same) later = inl (zero, omega arith, same)
    by_first (inr other) (inl (k, lt, at)) = inl (suc k, omega (arith, lt), at)
    by_first (inr other) (inr none) = inr by_place
      where
        by_place : Contains (x ∷ xs) v → ⊥
        by_place (zero, lt, at) = other at
        by_place (suc k, lt, at) = none (k, omega (arith, lt), at)

-- from a core node nothing leads up
along_core : (h : HierarchyLists) (u v : ℕ) → IsCore h.order u → IsRise h u v → IsCore h.order v
along_core h u v core (inl above) = absurd (omega (arith, core, height_most h.order v, above))
along_core h u v core (inr both) = both.1

-- states that a word leads to are states
state_stays : (l : LabelsMeaning) → IsLawfulLabels l → (word : List ℕ) (q r : ℕ) → q < l.states → Reads l q word r → r < l.states
state_stays l lawful [] q r within same = subst (λ s. s < l.states) (sym same) within
state_stays l lawful (c ∷ word) q r within (p, move, reads) = state_stays l lawful word p r (subst (λ s. s < l.states) (move.1).to (lawful.to_in_range q move.0 within (move.1).place)) reads

-- so are those that a letter leads to
follows_stays : (l : LabelsMeaning) → IsLawfulLabels l → (letter : Option ℕ) (q r : ℕ) → q < l.states → Follows l q letter r → r < l.states
follows_stays l lawful None q r within same = subst (λ s. s < l.states) (sym same) within
follows_stays l lawful (Some c) q r within move = state_stays l lawful (c ∷ []) q r within (r, move, refl)

module _ {a : AskedMeaning} {firsts : List Label} {turns : List Turn} {walks rows : List (Vec ℕ Global)} {labels : List Label} (e : HaveEnded a firsts turns walks rows labels) where
  abbrev n : NetworkLists
  n = a.rounds.network.now

  abbrev h : HierarchyLists
  h = a.rounds.hierarchy.now

  abbrev g : GraphMeaning
  g = meaning_in_use a.rounds.graph

  abbrev WalkAt : ℕ → ℕ → ℕ → Type 0
  WalkAt v q s = HasWalkAt a turns walks v q s

  abbrev CrossedBy : ℕ → ℕ → ℕ → Type 0
  CrossedBy p q s = IsCrossedBy a rows p q s

  -- two numbers for each node
  has_nodes : g.nodes ≡ 2 * length (nodes_of n)
  has_nodes = ap (λ (x : GraphMeaning). x.nodes) e.rounds.in_use.is

  -- ---- what is reached

  -- each label is reached
  label_reached : (x : Label) → Contains firsts x ⊎ IsWalkLabel a turns walks x ⊎ IsCrossingLabel a rows x → Reaches a x.node x.state x.at
  label_reached x (inl first) = All-contains (λ (y : Label). Reaches a y.node y.state y.at) firsts x e.firsts_are.reached first
  label_reached x (inr (inl w)) = subst (λ (y : Label). Reaches a y.node y.state y.at) (sym w.is) ((e.settled.walks_reached.1 w.row w.turn w.layer w.is_turn w.is_layer).reached w.place w.within w.some)
  label_reached x (inr (inr c)) = subst (λ (y : Label). Reaches a y.node y.state y.at) (sym c.is) (e.settled.crossings_reached.reached x.state c.crossing c.is_state c.within c.some)

  -- in a state
  state_inside : (p q t : ℕ) → Reaches a p q t → q < a.labels.states
  state_inside p q t r = state_stays a.labels e.lawful _ r.first q r.is_state r.reads

  -- ---- core nodes

  -- the label is at a core node, from where a move by its letter leads to a walk; and where that is a crossing it is reached
  record IsAtCore (x : Label) : Type 0 where
    node : ℕ
    is_node : x.node ≡ phase_node node false
    core : IsCore h.order node
    turns_on : (c r : ℕ) → letter_at n.roads node ≡ Some c → HasMove a.labels x.state c r → WalkAt node r x.at
    crosses : Contains a.rounds.crossings.items node → CrossedBy (phase_node node false) x.state x.at

  -- any label is at a core node, but first labels at contracted ones
  at_core : (x : Label) → Contains firsts x ⊎ IsWalkLabel a turns walks x ⊎ IsCrossingLabel a rows x → x.state < a.labels.states → (Contains firsts x × IsContracted h.order (node_of x.node)) ⊎ IsAtCore x
  at_core x (inl first) state =
      let v = node_of x.node in
      let before : x.node ≡ phase_node v false = All-contains (λ (y : Label). y.node ≡ phase_node (node_of y.node) false) firsts x e.firsts_are.before first in
      elim (cases_lt (height_in h.order v) (length h.order)) [
        | inl low ↦ inl (first, low)
        | inr high ↦ (
            let core : IsCore h.order v = omega (arith, high, height_most h.order v) in
            inr (record { node = v; is_node = before; core = core; turns_on = λ c r. first_turns e x v c r first state before core; crosses = first_crosses e x v first before })
            )
      ]
  at_core x (inr (inl w)) state =
      let v = node_at w.layer w.place in
      let inside : w.place < length w.layer.sheet.slope.nodes.items = omega (arith, w.within, (e.settled.walks_reached.1 w.row w.turn w.layer w.is_turn w.is_layer).as_many) in
      let place : HasPlace a turns v x.state = record {
        turn = w.turn;
        layer = w.layer;
        row = w.row;
        place = w.place;
        is_turn = w.is_turn;
        is_layer = w.is_layer;
        within = inside;
        node = refl;
        state = sym (ap (λ (y : Label). y.state) w.is);
      } in
      let walk : WalkAt v x.state x.at = record { at = place; some = w.some; by = omega (arith, ap (λ (y : Label). y.at) w.is) } in
      inr (record {
        node = v;
        is_node = ap (λ (y : Label). y.node) w.is;
        core = ((e.rounds.layers w.turn.letter w.layer w.is_layer).0.core w.place 0 inside).0;
        turns_on = λ c r. walk_turns e v c x.state r x.at walk;
        crosses = walk_returns e v x.state x.at walk;
      })
  at_core x (inr (inr c)) state =
      let v = slice_index a.rounds.crossings.items c.crossing in
      let core : IsCore h.order v = e.rounds.crossings c.crossing 0 c.within in
      let crossed : CrossedBy (phase_node v false) x.state x.at = (c.crossing, c.within, refl, c.some, omega (arith, ap (λ (y : Label). y.at) c.is)) in
      inr (record { node = v; is_node = ap (λ (y : Label). y.node) c.is; core = core; turns_on = λ k r. crossing_turns e v k x.state r x.at state crossed core; crosses = λ there. crossed })

  -- ---- arcs

  -- what an entry along the core leads to from a label at a core node has a label by then
  entry_on : (x : Label) (at : IsAtCore x) (i u r : ℕ) → i < steady_in_use a.rounds.graph (phase_node at.node false) → g.arrive (phase_node at.node false) i x.at ≡ Some u
      → Follows a.labels x.state (g.arc_at (phase_node at.node false) i).letter r → IsListedBy labels (g.arc_at (phase_node at.node false) i).to r u
  entry_on x at = rise_to a.rounds e.rounds e.network e.rules a.labels (IsListedBy labels) at.node x.state x.at
      (λ w weight c r entry rises letter move. walk_listed e w r (x.at + weight) (walk_on e at.node r x.at w weight (at.turns_on c r letter move) entry (along_core h at.node w at.core rises)))

  -- so has what a link or a ride leads to
  crosses_on : (x : Label) (at : IsAtCore x) (i u r : ℕ) → x.state < a.labels.states → steady_in_use a.rounds.graph (phase_node at.node false) ≤ i → HasArc g (phase_node at.node false) i → g.arrive (phase_node at.node false) i x.at ≡ Some u
      → Follows a.labels x.state (g.arc_at (phase_node at.node false) i).letter r → Contains a.rounds.crossings.items at.node → IsListedBy labels (g.arc_at (phase_node at.node false) i).to r u
  crosses_on x at i u r state past has arrives follows there =
      let p = phase_node at.node false in
      let c = at.crosses there in
      let earlier = earlier_of g (lawful_in_use a.rounds.graph) p i (a.dep + cell rows x.state c.0) x.at u has c.4 arrives in
      let next = crossing_visits e at.node x.state x.at c i earlier.0 r state past has earlier.1 follows in
      crossed_listed e (g.arc_at p i).to r u (follows_stays a.labels e.lawful (g.arc_at p i).letter x.state r state follows) (next.0, next.1, next.2, next.3, omega (arith, next.4, earlier.2))

  -- and at a node that is no crossing, what any other arc leads to: it stands
  stands_on : (x : Label) (at : IsAtCore x) (i u r : ℕ) → Contains labels x → steady_in_use a.rounds.graph (phase_node at.node false) ≤ i → HasArc g (phase_node at.node false) i
      → g.arrive (phase_node at.node false) i x.at ≡ Some u → Follows a.labels x.state (g.arc_at (phase_node at.node false) i).letter r → (Contains a.rounds.crossings.items at.node → ⊥)
      → IsListedBy labels (g.arc_at (phase_node at.node false) i).to r u
  stands_on x at i u r there past has arrives follows none =
      stand_to a.rounds e.rounds e.network e.rules a.labels (IsListedBy labels) at.node x.state x.at none (x.at, omega arith, subst (λ p. Contains labels (label_of p x.state x.at)) at.is_node there)
      (λ c s letter move. walk_listed e at.node s x.at (at.turns_on c s letter move)) i u r past has arrives follows

  -- so it is with any arc of a core node
  core_on : (x : Label) (at : IsAtCore x) (i u r : ℕ) → Contains labels x → x.state < a.labels.states → HasArc g (phase_node at.node false) i → g.arrive (phase_node at.node false) i x.at ≡ Some u
      → Follows a.labels x.state (g.arc_at (phase_node at.node false) i).letter r → IsListedBy labels (g.arc_at (phase_node at.node false) i).to r u
  core_on x at i u r there state has arrives follows = elim (cases_lt i (steady_in_use a.rounds.graph (phase_node at.node false))) [
    | inl steady ↦ entry_on x at i u r steady arrives follows
    | inr past ↦ (elim (contains_or_not a.rounds.crossings.items at.node) [
      | inl crossing ↦ crosses_on x at i u r state past has arrives follows crossing
      | inr none ↦ stands_on x at i u r there past has arrives follows none
    ])
  ]

  -- and with any arc from a label
  leads_on : (x : Label) → Contains labels x → (i u r : ℕ) → HasArc g x.node i → g.arrive x.node i x.at ≡ Some u → Follows a.labels x.state (g.arc_at x.node i).letter r → IsListedBy labels (g.arc_at x.node i).to r u
  leads_on x there i u r has arrives follows =
      let kind = All-contains (λ y. Contains firsts y ⊎ IsWalkLabel a turns walks y ⊎ IsCrossingLabel a rows y) labels x e.labels_are.are there in
      let state = state_inside x.node x.state x.at (label_reached x kind) in
      elim (at_core x kind state) [
        | inl (first, low) ↦ (
            let listed = one_after a.labels (g.arc_at x.node i).letter x.state r (λ s. IsListedBy firsts (g.arc_at x.node i).to s u) (e.firsts_are.further x i first low has.arc u arrives tt) follows in
            (listed.0, listed.1, All-contains (Contains labels) firsts (label_of (g.arc_at x.node i).to r listed.0) e.labels_are.firsts_too listed.2)
            )
        | inr at ↦ subst (λ p. HasArc g p i → g.arrive p i x.at ≡ Some u → Follows a.labels x.state (g.arc_at p i).letter r → IsListedBy labels (g.arc_at p i).to r u) (sym at.is_node) (core_on x at i u r there state) has arrives follows
      ]

  -- ---- all of it

  abbrev Known : ℕ → ℕ → ℕ → Type 0
  Known p q s = Contains labels (label_of p q s)

  -- arcs from what has a label lead to what has one
  known_closed : (t p q s i u : ℕ) → Known p q s → HasArc g p i → g.arrive p i s ≡ Some u → s ≤ t → u ≤ t
      → AllAfter a.labels q (g.arc_at p i).letter (λ r. (b : ℕ) × (b ≤ u) × Known (g.arc_at p i).to r b)
  known_closed t p q s i u there has arrives early by =
      all_after a.labels q (g.arc_at p i).letter (λ r. IsListedBy labels (g.arc_at p i).to r u) (λ r follows. leads_on (label_of p q s) there i u r has arrives follows)

  -- what a walk reaches has a label by then
  all_listed : (p q t : ℕ) → Reaches a p q t → IsListedBy labels p q t
  all_listed p q t r =
      let first = e.firsts_are.starts r.start r.first r.starts_there r.is_state r.is_start in
      walk_known g (lawful_in_use a.rounds.graph) a.labels t Known (known_closed t) r.steps r.start r.first a.dep p q r.walk r.reads
      (first.0, first.1, All-contains (Contains labels) firsts (label_of r.start r.first first.0) e.labels_are.firsts_too first.2)

  -- the labels are all that walks reach
  pub are_reached_labels : AreReachedLabels g a.labels a.starts a.dep labels
  are_reached_labels = record { reached = λ k d lt. label_reached _ (e.labels_are.are k d lt); all = all_listed }
