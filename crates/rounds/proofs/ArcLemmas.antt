-- Arcs before any descent: the letters of those at road nodes, and the steady ones as entries.
use Rattle.plan_base.proofs.Common.{◌≡◌, ℕ, ◌+◌, ◌<◌, ◌≤◌, ◌⊎◌, inl, inr, ◌∙◌, ◌||◌, ◌&&◌, nat_lt, Bool, true, false, List, [], length, get_or, Option, Some, None, IfSome, refl, sym, ap, ap₂, subst, subst₂, arith, slice_get-get_or, get_or_default, ltb-true, eqb-true, Contains}
use Rattle.plan_base.specs.{number_of_mode}
use Rattle.search_laws.specs.{GraphMeaning, HasArc, GraphArc, LabelsMeaning, HasMove, Follows}
use Rattle.mode_network.specs.{NetworkLists.NetworkLists, letter_at, nodes_of, IsNetwork, Step, Wait, Link, Stand, Ride, IsStep, declared.steps.Step.TheVariants.Road}
use Rattle.mode_network.proofs.{RuleLemmas.both, RuleLemmas.letter_is_road, RuleLemmas.letter_of, RuleLemmas.some_is}
use Rattle.hierarchy.specs.{Entry, HierarchyLists, height_in, HasEntry, IsHierarchy, entry_at, is_core, leads_up, no_entry}
use Rattle.hierarchy.proofs.{RiseLemmas.are_rise_places, SoundLemmas.fits}
use Rattle.phase_graph.specs.{PhaseMove, rest, rise, fall, cross, stand, IsCrossing, IsPhaseMove, IsRise, IsPhaseGraph, Up, arc_of, is_down, legs_at, node_of, phase_arc, phase_arrival, phase_meaning, phase_node, rises_at}
use Rattle.phase_graph.specs.{declared.in_use.GraphInUse.GraphInUse, declared.in_use.GraphInUse.TheVariants.Plain, declared.in_use.GraphInUse.TheVariants.Phases}
use Rattle.phase_graph.specs.InUseGraph.{hierarchy_in, meaning_in_use, network_in, steady_in_use}
use Rattle.phase_graph.proofs.{GraphLemmas.half, GraphLemmas.phase_of, GraphMoves.is_phase_graph, LegLemmas.legs_few, PlaceLemmas.up_known}
use Rattle.rounds.specs.Rounds.{Rounds, AreRounds}
use Rattle.rounds.specs.inside.{IsRoadOrNone}

-- the graph that rounds go over is one of phases for no targets
pub phases_of : (r : Rounds) → AreRounds r → IsNetwork r.network.now → IsHierarchy r.hierarchy.now → IsPhaseGraph r.network.now r.hierarchy.now [] (meaning_in_use r.graph)
phases_of r is network rules =
    let in_use = is.in_use in
    subst (IsPhaseGraph r.network.now r.hierarchy.now []) (sym in_use.is) (is_phase_graph r.network.now r.hierarchy.now [] network rules is.sound in_use.table in_use.keeps in_use.of in_use.marks in_use.are)

-- ---- letters

-- a letter is this one, or there is none
abbrev pub IsLetterOrNone : ℕ → Option ℕ → Type 0
IsLetterOrNone mode letter = (letter ≡ Some mode) ⊎ (letter ≡ None)

module _ (n : NetworkLists) (network : IsNetwork n) (v mode : ℕ) (letter : letter_at n.roads v ≡ Some mode) where
  -- no ride boards at a road node
  step_letter : (step : Step) (t w u : ℕ) (of : Option ℕ) → IsCrossing step → IsStep n v t step w u of → IsLetterOrNone mode of
  step_letter (Wait until) t w u of crossing is = absurd crossing
  step_letter (Road to) t w u of crossing is = absurd crossing
  step_letter (Link to) t w u of crossing (ms, leads, ew, eu, none) = inr none
  step_letter Stand t w u of crossing is = absurd crossing
  step_letter (Ride trip day board alight) t w u of crossing (run, on, off, ride, from, later, ew, eu, el) = absurd (let road = letter_is_road n network v mode letter in omega (arith, from, road.0))

  -- a move from a road node has the letter of that, or none
  pub move_letter : (h : HierarchyLists) (targets : List ℕ) (down : Bool) (t : ℕ) (move : PhaseMove) (w : ℕ) (end : Bool) (u : ℕ) (of : Option ℕ) → IsPhaseMove n h targets v down t move w end u of
      → IsLetterOrNone mode of
  move_letter h targets down t (rest until) w end u of (later, ew, ed, eu, el) = inr el
  move_letter h targets down t (rise hop) w end u of (before, entry, up, ew, ed, eu, el) = inl (el ∙ letter)
  move_letter h targets down t (fall hop) w end u of (entry, above, marked, ew, ed, eu, el) = inl (el ∙ letter)
  move_letter h targets down t (cross step) w end u of (before, core, crossing, taken, ed) = step_letter step t w u of crossing taken
  move_letter h targets down t stand w end u of (own, is, ew, ed, eu, el) = inl (el ∙ sym is ∙ letter)

  -- so has an arc
  pub arc_letter : (h : HierarchyLists) (targets : List ℕ) (g : GraphMeaning) → IsPhaseGraph n h targets g → (down : Bool) (i t u : ℕ) → HasArc g (phase_node v down) i → g.arrive (phase_node v down) i t ≡ Some u
      → IsLetterOrNone mode (g.arc_at (phase_node v down) i).letter
  arc_letter h targets g is down i t u has arrives =
      let m = is.move_of v down t i u has arrives in
      move_letter h targets down t m.move m.to m.down2 u (g.arc_at (phase_node v down) i).letter m.is

-- ---- rides

-- a run leads from v at t to w at u, with this letter
abbrev pub IsRideFrom : NetworkLists → ℕ → ℕ → ℕ → ℕ → Option ℕ → Type 0
IsRideFrom n v t w u letter = (trip : ℕ) × (day : ℕ) × (board : ℕ) × (alight : ℕ) × IsStep n v t (Ride trip day board alight) w u letter

module _ (n : NetworkLists) (network : IsNetwork n) (v t w u : ℕ) (letter : Option ℕ) where
  road_letter : (o : Option ℕ) → letter_at n.roads v ≡ o → IsRoadOrNone o
  road_letter None e = tt
  road_letter (Some mode) e = (letter_is_road n network v mode e).1

  of_node : letter ≡ letter_at n.roads v → IsRoadOrNone letter
  of_node e = subst IsRoadOrNone (sym e) (road_letter (letter_at n.roads v) refl)

  step_or_ride : (step : Step) → IsCrossing step → IsStep n v t step w u letter → IsRoadOrNone letter ⊎ IsRideFrom n v t w u letter
  step_or_ride (Wait until) crossing is = absurd crossing
  step_or_ride (Road to) crossing is = absurd crossing
  step_or_ride (Link to) crossing (ms, leads, ew, eu, none) = inl (subst IsRoadOrNone (sym none) tt)
  step_or_ride Stand crossing is = absurd crossing
  step_or_ride (Ride trip day board alight) crossing is = inr (trip, day, board, alight, is)

  -- a move before any descent has a road letter or none, or is a ride
  move_or_ride : (h : HierarchyLists) (targets : List ℕ) (move : PhaseMove) (end : Bool) → IsPhaseMove n h targets v false t move w end u letter → IsRoadOrNone letter ⊎ ((end ≡ false) × IsRideFrom n v t w u letter)
  move_or_ride h targets (rest until) end (later, ew, ed, eu, el) = inl (subst IsRoadOrNone (sym el) tt)
  move_or_ride h targets (rise hop) end (before, entry, up, ew, ed, eu, el) = inl (of_node el)
  move_or_ride h targets (fall hop) end (entry, above, marked, ew, ed, eu, el) = inl (of_node el)
  move_or_ride h targets (cross step) end (before, core, crossing, taken, ed) = elim (step_or_ride step crossing taken) [
    | inl road ↦ inl road
    | inr ride ↦ inr (ed, ride)
  ]
  move_or_ride h targets stand end (own, is, ew, ed, eu, el) = inl (of_node (el ∙ sym is))

-- so has an arc that arrives, or is one
pub road_or_ride : (n : NetworkLists) → IsNetwork n → (h : HierarchyLists) (targets : List ℕ) (g : GraphMeaning) → IsPhaseGraph n h targets g → (v i t u : ℕ) → HasArc g (phase_node v false) i → g.arrive (phase_node v false) i t ≡ Some u
    → IsRoadOrNone (g.arc_at (phase_node v false) i).letter ⊎ ((w : ℕ) × ((g.arc_at (phase_node v false) i).to ≡ phase_node w false) × IsRideFrom n v t w u (g.arc_at (phase_node v false) i).letter)
road_or_ride n network h targets g is v i t u has arrives =
    let m = is.move_of v false t i u has arrives in
    elim (move_or_ride n network v t m.to u (g.arc_at (phase_node v false) i).letter h targets m.move m.down2 m.is) [
      | inl road ↦ inl road
      | inr (end, ride) ↦ inr (m.to, m.leads ∙ ap (phase_node m.to) end, ride)
    ]

-- ---- steady arcs

-- an entry leads up from v or along the core, and so does the arc at place i of v, before any descent, taken at t: it arrives at u
pub record IsByRise (n : NetworkLists) (h : HierarchyLists) (g : GraphMeaning) (v i t u : ℕ) : Type 0 where
  pub to : ℕ
  pub weight : ℕ
  pub entry : HasEntry h.entries v to weight
  pub rises : IsRise h v to
  pub leads : (g.arc_at (phase_node v false) i).to ≡ phase_node to false
  pub letter : (g.arc_at (phase_node v false) i).letter ≡ letter_at n.roads v
  pub at : u ≡ t + weight

-- a test for rises
pub leads_up_rises : (h : HierarchyLists) (u v : ℕ) → leads_up h.order u v ≡ true → IsRise h u v
leads_up_rises h u v up = by_test (nat_lt (height_in h.order u) (height_in h.order v)) refl
  where
    by_test : (b : Bool) → nat_lt (height_in h.order u) (height_in h.order v) ≡ b → IsRise h u v
    by_test true e = inl (ltb-true _ _ e)
    by_test false e =
        let cores = both (is_core h.order u) (is_core h.order v) (sym (ap (λ b. b || (is_core h.order u && is_core h.order v)) e) ∙ up) in
        inr (eqb-true _ _ cores.0, eqb-true _ _ cores.1)

module _ (n : NetworkLists) (h : HierarchyLists) (rules : IsHierarchy h) (v i t u : ℕ) where
  by_rise : (table : _) (marks : List Bool) → i < length (rises_at h v false) → (phase_meaning n table h marks).arrive (phase_node v false) i t ≡ Some u → IsByRise n h (phase_meaning n table h marks) v i t u
  by_rise table marks lt arrives =
      let g = phase_meaning n table h marks in
      let place = get_or (rises_at h v false) i 0 in
      let are = are_rise_places h rules v in
      let within : place < length h.entries = are.within i 0 lt in
      let e = entry_at h.entries place in
      let rises = are.each place e (i, lt, sym (get_or_default (rises_at h v false) i 0 place lt)) (slice_get-get_or h.entries place no_entry within) in
      let own : Entry = record { from = v; to = e.to; weight = e.weight; via = e.via } in
      let up : phase_arc n h v false i ≡ Up place = up_known n h v false i lt in
      let arc : g.arc_at (phase_node v false) i ≡ arc_of n table h v false (Up place) =
      ap₂ (λ x d. arc_of n table h x d (phase_arc n h x d i)) (half v false) (phase_of v false) ∙ ap (arc_of n table h v false) up in
      let arrival : g.arrive (phase_node v false) i t ≡ Some (t + e.weight) =
      ap₂ (λ x d. phase_arrival n table h marks x t (phase_arc n h x d i)) (half v false) (phase_of v false) ∙ ap (phase_arrival n table h marks v t) up in
      record {
        to = e.to;
        weight = e.weight;
        entry = (e.via, (place, within, sym (get_or_default h.entries place no_entry own within) ∙ ap (λ x. record { from = x; to = e.to; weight = e.weight; via = e.via }) rises.begins));
        rises = leads_up_rises h v e.to (subst (λ x. leads_up h.order x e.to ≡ true) rises.begins rises.leads);
        leads = ap (λ (a : GraphArc). a.to) arc;
        letter = ap (λ (a : GraphArc). a.letter) arc;
        at = some_is (sym arrives ∙ arrival);
      }

-- each steady arc of the graph in use leads so
pub steady_arc : (graph : GraphInUse) (n : NetworkLists) (h : HierarchyLists) → network_in graph ≡ n → hierarchy_in graph ≡ Some h → IsHierarchy h → (v i t u : ℕ) → i < steady_in_use graph (phase_node v false)
    → (meaning_in_use graph).arrive (phase_node v false) i t ≡ Some u → IsByRise n h (meaning_in_use graph) v i t u
steady_arc (Plain p) n h network hierarchy rules v i t u lt arrives = cc
steady_arc (Phases p) n h network hierarchy rules v i t u lt arrives =
    let own = p.hierarchy.now in
    let same : own ≡ h = some_is hierarchy in
    let inside : i < length (rises_at own v false) = omega (arith, lt, ap₂ (λ x d. length (legs_at own x d)) (half v false) (phase_of v false), legs_few own v false) in
    subst₂ (λ x y. IsByRise x y (meaning_in_use (Phases p)) v i t u) network same (by_rise p.plain.network.now own (subst IsHierarchy (sym same) rules) v i t u p.plain.timetable.now _ inside arrives)

-- steady arcs are arcs
pub steady_within : (graph : GraphInUse) (h : HierarchyLists) → hierarchy_in graph ≡ Some h → (p : ℕ) → steady_in_use graph p ≤ (meaning_in_use graph).arcs p
steady_within (Plain it) h hierarchy p = cc
steady_within (Phases it) h hierarchy p = omega (arith, legs_few it.hierarchy.now (node_of p) (is_down p))

-- ---- what arcs before any descent lead to

module _ (r : Rounds) (is : AreRounds r) (network : IsNetwork r.network.now) (rules : IsHierarchy r.hierarchy.now) (l : LabelsMeaning) (P : ℕ → ℕ → ℕ → Type 0) (v q t : ℕ) where
  abbrev g : GraphMeaning
  g = meaning_in_use r.graph

  abbrev p : ℕ
  p = phase_node v false

  -- P holds where the steady arcs lead to, if it does where entries do
  pub rise_to : ((w weight c s : ℕ) → HasEntry r.hierarchy.now.entries v w weight → IsRise r.hierarchy.now v w → letter_at r.network.now.roads v ≡ Some c → HasMove l q c s → P (phase_node w false) s (t + weight))
      → (i u s : ℕ) → i < steady_in_use r.graph p → g.arrive p i t ≡ Some u → Follows l q (g.arc_at p i).letter s → P (g.arc_at p i).to s u
  rise_to on i u s steady arrives follows =
      let way = steady_arc r.graph r.network.now r.hierarchy.now is.network_is is.hierarchy_is rules v i t u steady arrives in
      let f = fits r.network.now r.hierarchy.now is.sound v way.to way.weight way.entry in
      let c = number_of_mode f.mode in
      let letter : letter_at r.network.now.roads v ≡ Some c = letter_of r.network.now.roads v _ f.from_mode in
      let there = on way.to way.weight c s way.entry way.rises letter (subst (λ o. Follows l q o s) (way.letter ∙ letter) follows) in
      subst (λ x. P x s u) (sym way.leads) (subst (P (phase_node way.to false) s) (sym way.at) there)

  -- and where the other arcs of a node that is no crossing lead to, if it does where one stands
  pub stand_to : (Contains r.crossings.items v → ⊥) → P p q t → ((c s : ℕ) → letter_at r.network.now.roads v ≡ Some c → HasMove l q c s → P p s t)
      → (i u s : ℕ) → steady_in_use r.graph p ≤ i → HasArc g p i → g.arrive p i t ≡ Some u → Follows l q (g.arc_at p i).letter s → P (g.arc_at p i).to s u
  stand_to none here on i u s past has arrives follows =
      let inside : v < length (nodes_of r.network.now) = omega (arith, has.node, ap (λ (x : GraphMeaning). x.nodes) is.in_use.is) in
      let quiet = is.quiet v inside none in
      let standing = quiet.standing t i u past has.arc arrives in
      subst (λ x. P x s u) (sym standing.0) (subst (P p s) (sym standing.1) (elim (arc_letter r.network.now network v quiet.letter quiet.road r.hierarchy.now [] g (phases_of r is network rules) false i t u has arrives) [
        | inl told ↦ on quiet.letter s quiet.road (subst (λ o. Follows l q o s) told follows)
        | inr plain ↦ subst (λ x. P p x t) (sym (subst (λ o. Follows l q o s) plain follows)) here
      ]))
