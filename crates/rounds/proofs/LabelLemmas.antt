-- What labels at core nodes say of walks and crossings, where nothing is reached sooner any more.
use Rattle.plan_base.proofs.Common.{◌≡◌, ◌∙◌, ℕ, ◌+◌, ◌<◌, ◌≤◌, inl, inr, false, List, [], length, slice_index, slice_get, Some, IfSome, refl, sym, ap, subst, subst₂, arith, Contains, get_or_default, get_or_from_slice_get, slice_get-get_or, slice_get_within, slice_get_cases, Vec, Global}
use Rattle.search_laws.specs.{GraphMeaning, HasArc, LabelsMeaning, IsLawfulLabels, IsRoadLabels, HasMove, Follows}
use Rattle.mode_network.specs.{NetworkLists.NetworkLists, letter_at, IsNetwork, Ride, IsStep}
use Rattle.mode_network.proofs.RuleLemmas.{letter_is_road, some_is}
use Rattle.hierarchy.specs.{HierarchyLists, IsCore, HasEntry, IsHierarchy}
use Rattle.product_search.specs.{Label, IsListedBy, label_of}
use Rattle.phase_graph.specs.{phase_node, InUseGraph.meaning_in_use, InUseGraph.steady_in_use}
use Rattle.phase_graph.proofs.MoveLemmas.{same_mode}
use Rattle.rounds.specs.{CoreLayer, AreRounds, CoreLeads, IsCoreIn, IsCoreLayer}
use Rattle.rounds.specs.inside.{AskedMeaning, IsLayerOf, Turn, IsTurn, AreTurns, node_at, row_of, cell, never, AreSettled, AreLabelsOf, IsWalkLabel, IsCrossingLabel, AreFirsts, IsWalked, IsCrossedBy, IsRoadOrNone, crossing_node}
use Rattle.rounds.proofs.{ArcLemmas.phases_of, ArcLemmas.road_or_ride, RideLemmas.ride_crossed}

-- a move by a road letter that can be read again leads nowhere else
pub stays : (l : LabelsMeaning) → IsRoadLabels l → (q c r : ℕ) → q < l.states → c < 3 → HasMove l q c q → HasMove l q c r → r ≡ q
stays l road q c r within low again move =
    let same = road.only q c q r move.0 again.0 within low again move.1 again.1 in
    sym (move.1).to ∙ ap (λ i. (l.move_at q i).to) same ∙ (again.1).to

-- ---- what is reached by then

-- the node v has a place in the layer of a turn, in whose state that is q
pub record HasPlace (a : AskedMeaning) (turns : List Turn) (v q : ℕ) : Type 0 where
  pub turn : Turn
  pub layer : CoreLayer
  pub row : ℕ
  pub place : ℕ
  pub is_turn : slice_get turns row ≡ Some turn
  pub is_layer : IsLayerOf a turn.letter layer
  pub within : place < length layer.sheet.slope.nodes.items
  pub node : node_at layer place ≡ v
  pub state : turn.state ≡ q

-- a walk is at the node v in the state q by s
pub record HasWalkAt (a : AskedMeaning) (turns : List Turn) (walks : List (Vec ℕ Global)) (v q s : ℕ) : Type 0 where
  pub at : HasPlace a turns v q
  pub some : cell walks at.row at.place < never
  pub by : a.dep + cell walks at.row at.place ≤ s

-- rounds over a lawful network that have come to an end, and their labels
pub record HaveEnded (a : AskedMeaning) (firsts : List Label) (turns : List Turn) (walks rows : List (Vec ℕ Global)) (labels : List Label) : Type 0 where
  pub network : IsNetwork a.rounds.network.now
  pub rules : IsHierarchy a.rounds.hierarchy.now
  pub rounds : AreRounds a.rounds
  pub lawful : IsLawfulLabels a.labels
  pub road : IsRoadLabels a.labels
  pub firsts_are : AreFirsts a firsts
  pub turns_are : AreTurns a.labels turns
  pub settled : AreSettled a firsts turns walks rows
  pub labels_are : AreLabelsOf a firsts turns walks rows labels

module _ {a : AskedMeaning} {firsts : List Label} {turns : List Turn} {walks rows : List (Vec ℕ Global)} {labels : List Label} (e : HaveEnded a firsts turns walks rows labels) where
  abbrev n : NetworkLists
  n = a.rounds.network.now

  abbrev h : HierarchyLists
  h = a.rounds.hierarchy.now

  abbrev g : GraphMeaning
  g = meaning_in_use a.rounds.graph

  abbrev Place : ℕ → ℕ → Type 0
  Place v q = HasPlace a turns v q

  abbrev WalkAt : ℕ → ℕ → ℕ → Type 0
  WalkAt v q s = HasWalkAt a turns walks v q s

  abbrev CrossedBy : ℕ → ℕ → ℕ → Type 0
  CrossedBy p q s = IsCrossedBy a rows p q s

  -- ---- turns and layers

  -- a layer is one of the core
  layer_is : (letter : ℕ) (layer : CoreLayer) → IsLayerOf a letter layer → IsCoreLayer n h letter layer.sheet
  layer_is letter layer it = (e.rounds.layers letter layer it).0

  -- each road letter has a layer
  has_layer : (letter : ℕ) → letter < 3 → (layer : CoreLayer) × IsLayerOf a letter layer
  has_layer letter low = elim (slice_get_cases a.rounds.layers.items letter).1 [
    | inl found ↦ (found.0, found.2)
    | inr none ↦ absurd (omega (arith, none.0, e.rounds.many))
  ]

  -- a node of the core has a place in the layer of its letter
  place_in : (letter : ℕ) (layer : CoreLayer) → IsLayerOf a letter layer → (v : ℕ) → IsCore h.order v → letter_at n.roads v ≡ Some letter
      → (i : ℕ) × (i < length layer.sheet.slope.nodes.items) × (node_at layer i ≡ v)
  place_in letter layer it v core mode =
      let there = (layer_is letter layer it).all v (core, mode) in
      (there.0, there.1, get_or_default layer.sheet.slope.nodes.items there.0 0 v there.1 ∙ there.2)

  module _ {v q : ℕ} (at : Place v q) where
    -- the turn is one
    turn_is : IsTurn a.labels at.turn
    turn_is = subst (IsTurn a.labels) (get_or_from_slice_get turns at.row at.turn at.turn at.is_turn) (e.turns_are.are at.row at.turn (slice_get_within turns at.row at.turn at.is_turn))

    -- a row has as many delays as its layer has nodes
    many : length (row_of walks at.row) ≡ length at.layer.sheet.slope.nodes.items
    many = (e.settled.walks_reached.1 at.row at.turn at.layer at.is_turn at.is_layer).as_many

    -- its walk is closed, and so it is between it and the crossings
    walked : IsWalked at.turn at.layer (row_of walks at.row) rows
    walked = e.settled.closed at.row at.turn at.layer (slice_get_within turns at.row at.turn at.is_turn) at.is_turn at.is_layer

    -- the node there is a core node with the letter of the turn
    core_there : IsCoreIn n h at.turn.letter v
    core_there = subst (IsCoreIn n h at.turn.letter) at.node ((layer_is at.turn.letter at.layer at.is_layer).core at.place 0 at.within)

    -- where it is a crossing, too, there is a gate
    gate_there : (j : ℕ) → j < length a.rounds.crossings.items → slice_index a.rounds.crossings.items j ≡ v → Contains at.layer.gates.items (record { crossing = j; place = at.place })
    gate_there j low same = (e.rounds.layers at.turn.letter at.layer at.is_layer).1.all at.place j at.within low (at.node ∙ sym same)

  -- ---- labels

  -- a walk has a label
  pub walk_listed : (v q s : ℕ) → WalkAt v q s → IsListedBy labels (phase_node v false) q s
  walk_listed v q s w =
      let at = w.at in
      let late = a.dep + cell walks at.row at.place in
      let x : Label = record { node = phase_node (node_at at.layer at.place) false; state = at.turn.state; at = late } in
      let inside : at.place < length (row_of walks at.row) = omega (arith, at.within, many at) in
      let label : IsWalkLabel a turns walks x = record { turn = at.turn; layer = at.layer; row = at.row; place = at.place; is_turn = at.is_turn; is_layer = at.is_layer; within = inside; some = w.some; is = refl } in
      (late, w.by, subst₂ (λ u r. Contains labels (label_of (phase_node u false) r late)) at.node at.state (e.labels_are.walks_too x label))

  -- so has a crossing that is reached
  pub crossed_listed : (p q s : ℕ) → q < a.labels.states → CrossedBy p q s → IsListedBy labels p q s
  crossed_listed p q s state (j, low, is, some, by) =
      let late = a.dep + cell rows q j in
      let x : Label = record { node = crossing_node a j; state = q; at = late } in
      let label : IsCrossingLabel a rows x = record { crossing = j; is_state = state; within = low; some = some; is = refl } in
      (late, by, subst (λ o. Contains labels (label_of o q late)) (sym is) (e.labels_are.crossings_too x label))

  -- ---- entries along the core

  -- a walk goes on along an entry
  pub walk_on : (v q s w weight : ℕ) → WalkAt v q s → HasEntry h.entries v w weight → IsCore h.order w → WalkAt w q (s + weight)
  walk_on v q s w weight walk entry core =
      let at = walk.at in
      let from = core_there at in
      let place = place_in at.turn.letter at.layer at.is_layer w core (same_mode n h e.rounds.sound [] v w weight at.turn.letter entry from.1) in
      let along : CoreLeads h v w weight = (entry, from.0, core) in
      let leg = (layer_is at.turn.letter at.layer at.is_layer).entries at.place place.0 weight at.within place.1 (subst₂ (λ x y. CoreLeads h x y weight) (sym at.node) (sym place.2) along) in
      let row : at.row < length walks = omega (arith, e.settled.walks_reached.0, slice_get_within turns at.row at.turn at.is_turn) in
      let room = e.settled.room at.row at.place row (omega (arith, at.within, many at)) walk.some in
      let long = e.rounds.longest v w weight along in
      let closed = (walked at).closed at.place place.0 leg.0 leg.2 (omega (arith, room, long, leg.1)) in
      record {
        at = record { turn = at.turn; layer = at.layer; row = at.row; place = place.0; is_turn = at.is_turn; is_layer = at.is_layer; within = place.1; node = place.2; state = at.state };
        some = omega (arith, closed, room, long, leg.1);
        by = omega (arith, walk.by, closed, leg.1);
      }

  -- ---- moves by the letter of a core node

  -- one leads on in a turn
  turn_from : (v c q r : ℕ) → IsCore h.order v → letter_at n.roads v ≡ Some c → q < a.labels.states → HasMove a.labels q c r → (at : Place v r) × Contains at.turn.sources.items q
  turn_from v c q r core mode state move =
      let low = (letter_is_road n e.network v c mode).1 in
      let turn = e.turns_are.all q c r state low move in
      let layer = has_layer c low in
      let it : IsLayerOf a (turn.0).letter layer.0 = subst (λ k. IsLayerOf a k layer.0) (sym turn.2) layer.1 in
      let place = place_in (turn.0).letter layer.0 it v core (mode ∙ ap Some (sym turn.2)) in
      let is = slice_get-get_or turns (turn.1).0 turn.0 (turn.1).1 ∙ ap Some (turn.1).2 in
      (record { turn = turn.0; layer = layer.0; row = (turn.1).0; place = place.0; is_turn = is; is_layer = it; within = place.1; node = place.2; state = turn.3 }, turn.4)

  -- a walk stays in its state
  pub walk_turns : (v c q r s : ℕ) → WalkAt v q s → letter_at n.roads v ≡ Some c → HasMove a.labels q c r → WalkAt v r s
  walk_turns v c q r s walk mode move =
      let at = walk.at in
      let turn = turn_is at in
      let same : c ≡ at.turn.letter = some_is (sym mode ∙ (core_there at).1) in
      let again : HasMove a.labels at.turn.state at.turn.letter r = subst₂ (λ x y. HasMove a.labels x y r) (sym at.state) same move in
      subst (λ x. WalkAt v x s) (sym at.state ∙ sym (stays a.labels e.road at.turn.state at.turn.letter r turn.state turn.letter turn.stays again)) walk

  -- from a crossing one leads to a walk
  pub crossing_turns : (v c q r s : ℕ) → q < a.labels.states → CrossedBy (phase_node v false) q s → IsCore h.order v → letter_at n.roads v ≡ Some c → HasMove a.labels q c r → WalkAt v r s
  crossing_turns v c q r s state (j, low, is, some, by) core mode move =
      let t = turn_from v c q r core mode state move in
      let fed = (walked t.0).fed q (record { crossing = j; place = (t.0).place }) t.1 (gate_there t.0 j low (omega (arith, is))) in
      record { at = t.0; some = omega (arith, fed, some); by = omega (arith, fed, by) }

  -- so does one from a first label
  pub first_turns : (x : Label) (v c r : ℕ) → Contains firsts x → x.state < a.labels.states → x.node ≡ phase_node v false → IsCore h.order v → letter_at n.roads v ≡ Some c → HasMove a.labels x.state c r
      → WalkAt v r x.at
  first_turns x v c r there state node core mode move =
      let t = turn_from v c x.state r core mode state move in
      let at = t.0 in
      let delay = e.settled.walked x at.row at.place at.turn at.layer there at.is_turn at.is_layer t.1 at.within (node ∙ ap (λ u. phase_node u false) (sym at.node)) in
      record { at = at; some = delay.0; by = delay.1 }

  -- ---- crossings

  -- where a walk is at a crossing, that is reached, too
  pub walk_returns : (v q s : ℕ) → WalkAt v q s → Contains a.rounds.crossings.items v → CrossedBy (phase_node v false) q s
  walk_returns v q s walk (j, low, same) =
      let at = walk.at in
      let is = get_or_default a.rounds.crossings.items j 0 v low ∙ same in
      let returned = (walked at).returned (record { crossing = j; place = at.place }) (gate_there at j low is) in
      subst (λ x. CrossedBy (phase_node v false) x s) at.state (j, low, ap (λ u. phase_node u false) (sym is), omega (arith, returned, walk.some), omega (arith, returned, walk.by))

  -- where a first label is at one, too
  pub first_crosses : (x : Label) (v : ℕ) → Contains firsts x → x.node ≡ phase_node v false → Contains a.rounds.crossings.items v → CrossedBy (phase_node v false) x.state x.at
  first_crosses x v there node (j, low, same) =
      let is = ap (λ u. phase_node u false) (sym (get_or_default a.rounds.crossings.items j 0 v low ∙ same)) in
      let delay = e.settled.crossed x j there low (node ∙ is) in
      (j, low, is, delay.0, delay.1)

  -- what a crossing is left by but its entries leads to a crossing
  pub crossing_visits : (v q s : ℕ) (c : CrossedBy (phase_node v false) q s) (i u r : ℕ) → q < a.labels.states → steady_in_use a.rounds.graph (phase_node v false) ≤ i → HasArc g (phase_node v false) i
      → g.arrive (phase_node v false) i (a.dep + cell rows q c.0) ≡ Some u → Follows a.labels q (g.arc_at (phase_node v false) i).letter r → CrossedBy (g.arc_at (phase_node v false) i).to r u
  crossing_visits v q s (j, low, is, some, by) i u r state past has arrives follows =
      let p = phase_node v false in
      let at : slice_index a.rounds.crossings.items j ≡ v = omega (arith, is) in
      elim (road_or_ride n e.network h [] g (phases_of a.rounds e.rounds e.network e.rules) v i (a.dep + cell rows q j) u has arrives) [
        | inl road ↦ subst (λ o. steady_in_use a.rounds.graph o ≤ i → i < g.arcs o → g.arrive o i (a.dep + cell rows q j) ≡ Some u → IsRoadOrNone (g.arc_at o i).letter → Follows a.labels q (g.arc_at o i).letter r
            → CrossedBy (g.arc_at o i).to r u) (sym is) (e.settled.visited q j state low some i u r) past has.arc arrives road follows
        | inr (w, leads, (trip, day, board, alight, step)) ↦ subst (λ o. CrossedBy o r u) (sym leads)
            (ride_crossed a e.rounds rows e.settled.ridden j q state low some trip day board alight w u r (g.arc_at p i).letter (subst (λ x. IsStep n x (a.dep + cell rows q j) (Ride trip day board alight) w u (g.arc_at p i).letter) (sym at) step) follows)
      ]
