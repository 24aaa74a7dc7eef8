-- Each arc of the phase graph that arrives is a move, and each move but a rest has an arc.
use Rattle.plan_base.proofs.Common.{◌≡◌, ℕ, ◌+◌, ◌-◌, ◌*◌, ◌<◌, ◌≤◌, inl, inr, ◌∙◌, ◌&&◌, ◌||◌, cond, nat_lt, Bool, true, false, List, length, get_or, Option, Some, None, refl, ap, ap₂, arith, sym, subst, option_map, is_some, cases_lt, eqb-true, ltb-true, lt-ltb, le-ltb, eq-eqb, get_or_default, slice_get-get_or}
use Rattle.search_laws.specs.{GraphMeaning, HasArc, GraphArc}
use Rattle.timetable_arcs.specs.{Instance, Ride as RideCalls, TableLists, IsTable}
use Rattle.mode_network.specs.{Arc, Step, Wait, Link as TakeLink, Stand as StandStill, Ride as TakeRide, nodes_of, letter_at, range_from, IsNetwork, IsTimetableOf, IsStep, declared.steps.Step.TheVariants.Road as TakeRoad, NetworkLists.NetworkLists}
use Rattle.plan_base.specs.{number_of_mode}
use Rattle.mode_network.proofs.{RuleLemmas.letter_of, RuleLemmas.some_is, RuleLemmas.both, KeyLemmas.in_range_of_key}
use Rattle.hierarchy.specs.{Entry, Hop, HierarchyLists, height_in, is_above, IsAbove, IsCore, IsHierarchy, is_core, leads_up, HasEntry, IsSound, from_of, entry_at, no_entry, AreEndsBelow}
use Rattle.hierarchy.proofs.{LookupLemmas.from_rises, RiseLemmas.are_rise_places, SoundLemmas.fits}
use Rattle.plain_graph.specs.{PlainArc, Road, Link, Stand, Ride, plain_meaning, plain_arc, count_from, stands_at, run_at, arrival, graph_arc, no_arc, IsNoWait, inside.IsOut, inside.IsArcFrom, inside.out_of, inside.no_mode}
use Rattle.plain_graph.proofs.{PlaceTies.stand_at, Same.step_at, Same.steps_are_arcs}
use Rattle.phase_graph.specs.{PhaseArc, Up, Down, Other, PhaseMove, rest, rise, fall, cross, stand, IsPhaseMove, IsRise, IsCrossing, IsMarked, phase_node, IsResting, IsArcBy, IsArcOfMove, IsPhaseGraph, AreMarksFor, has_mark, is_fall, phase_meaning, phase_arc, phase_arcs_at, arc_of, phase_arrival, rises_at, first_entry, entries_at, others_at, first_other}
use Rattle.phase_graph.proofs.{GraphLemmas.half, GraphLemmas.phase_of, GraphLemmas.in_nodes, GraphLemmas.road_inside, GraphLemmas.IsArcAt, GraphLemmas.arc_is, GraphLemmas.taken, GraphLemmas.place_fits, MarkLemmas.marked_by_fall, PlaceLemmas.up_is, PlaceLemmas.down_is, PlaceLemmas.other_is, JourneyLemmas.link_leaves_core, JourneyLemmas.stop_is_core}

-- ---- the arcs of the plain graph behind the road arcs

-- none is a road arc
no_road : (n : NetworkLists) (t : TableLists) (v place : ℕ) (arc : Arc) → count_from n.arcs v ≤ place → plain_arc n t v place ≡ Road arc → ⊥
no_road n t v place arc past is =
    let behind = le-ltb place (count_from n.arcs v) past in
    by_tests (nat_lt (place - count_from n.arcs v) (count_from n.links v)) (is_some (letter_at n.roads v)) _ _ (rw behind at is)
  where
    by_tests : (l r : Bool) (link : Arc) (ride : RideCalls) → cond l (Link link) (cond r Stand (Ride ride)) ≡ Road arc → ⊥
    by_tests true r link ride e = cc
    by_tests false true link ride e = cc
    by_tests false false link ride e = cc

-- and behind the links there is one that stands, at a road node
only_stands : (n : NetworkLists) (t : TableLists) (v place : ℕ) → count_from n.arcs v + count_from n.links v ≤ place
    → place < count_from n.arcs v + count_from n.links v + stands_at n v → plain_arc n t v place ≡ Stand
only_stands n t v place low high = by_mode (letter_at n.roads v) refl
  where
    by_mode : (o : Option ℕ) → letter_at n.roads v ≡ o → plain_arc n t v place ≡ Stand
    by_mode None e =
        let none : stands_at n v ≡ 0 = ap (λ (o : Option ℕ). cond (is_some o) 1 0) e in
        absurd (omega (arith, none, low, high))
    by_mode (Some mode) e =
        let one : stands_at n v ≡ 1 = ap (λ (o : Option ℕ). cond (is_some o) 1 0) e in
        let here : place ≡ count_from n.arcs v + count_from n.links v = omega (arith, one, low, high) in
        ap (plain_arc n t v) here ∙ stand_at n t 0 0 v mode e

module _ (n : NetworkLists) (h : HierarchyLists) (targets : List ℕ) (network : IsNetwork n) (rules : IsHierarchy h) (sound : IsSound n h) (t : TableLists) (table : IsTable t) (of : IsTimetableOf n t)
    (marks : List Bool) (are : AreMarksFor h targets marks) where
  abbrev g : GraphMeaning
  g = phase_meaning n t h marks

  -- ---- arcs are moves

  rise_of : (u v : ℕ) → leads_up h.order u v ≡ true → IsRise h u v
  rise_of u v up = by_test (nat_lt (height_in h.order u) (height_in h.order v)) refl
    where
      by_test : (b : Bool) → nat_lt (height_in h.order u) (height_in h.order v) ≡ b → IsRise h u v
      by_test true e = inl (ltb-true _ _ e)
      by_test false e =
          let cores = both (is_core h.order u) (is_core h.order v) (sym (ap (λ b. b || (is_core h.order u && is_core h.order v)) e) ∙ up) in
          inr (eqb-true _ _ cores.0, eqb-true _ _ cores.1)

  entry_is : (v place : ℕ) → place < length h.entries → (entry_at h.entries place).from ≡ v → HasEntry h.entries v (entry_at h.entries place).to (entry_at h.entries place).weight
  entry_is v place lt from =
      let e = entry_at h.entries place in
      let row : Entry = record { from = v; to = e.to; weight = e.weight; via = e.via } in
      (e.via, (place, lt, sym (get_or_default h.entries place no_entry row lt) ∙ ap (λ x. record { from = x; to = e.to; weight = e.weight; via = e.via }) from))

  -- the arc leads as a move does that is taken at a time and arrives at u, and has its letter
  record IsMoveAlong (v : ℕ) (down : Bool) (time u : ℕ) (a : GraphArc) : Type 0 where
    move : PhaseMove
    to : ℕ
    down2 : Bool
    moves : IsResting move → ⊥
    is : IsPhaseMove n h targets v down time move to down2 u a.letter
    leads : a.to ≡ phase_node to down2

  up_move : (v time u place : ℕ) (down : Bool) → IsArcAt n h t v down (Up place) → phase_arrival n t h marks v time (Up place) ≡ Some u → IsMoveAlong v down time u (arc_of n t h v down (Up place))
  up_move v time u place down (before, lt, from, up) e =
      let to = (entry_at h.entries place).to in
      let weight = (entry_at h.entries place).weight in
      record {
        move = rise (record { to = to; weight = weight });
        to = to;
        down2 = false;
        moves = λ x. x;
        is = (before, entry_is v place lt from, rise_of v to (subst (λ x. leads_up h.order x to ≡ true) from up), refl, refl, sym (some_is e), refl);
        leads = refl;
      }

  down_move : (v time u place : ℕ) (down : Bool) → IsArcAt n h t v down (Down place) → phase_arrival n t h marks v time (Down place) ≡ Some u
      → IsMoveAlong v down time u (arc_of n t h v down (Down place))
  down_move v time u place down (lt, from) e =
      let to = (entry_at h.entries place).to in
      let weight = (entry_at h.entries place).weight in
      let fell = taken (is_fall h marks (entry_at h.entries place)) (time + weight) u e in
      let tests = both (has_mark marks to) (has_mark marks (entry_at h.entries place).from && is_above h.order (entry_at h.entries place).from to) fell.0 in
      let above = both (has_mark marks (entry_at h.entries place).from) (is_above h.order (entry_at h.entries place).from to) tests.1 in
      let lower : IsAbove h.order v to = subst (λ x. IsAbove h.order x to) from (ltb-true _ _ above.1) in
      record {
        move = fall (record { to = to; weight = weight });
        to = to;
        down2 = true;
        moves = λ x. x;
        is = (entry_is v place lt from, lower, are.each to tests.0, refl, refl, sym fell.1, refl);
        leads = refl;
      }

  other_move : (v time u place : ℕ) (down : Bool) → v < length (nodes_of n) → IsArcAt n h t v down (Other place) → phase_arrival n t h marks v time (Other place) ≡ Some u
      → IsMoveAlong v down time u (arc_of n t h v down (Other place))
  other_move v time u place down node is e =
      by_kind (plain_arc n t v place) refl (out_of n network t table v place (place_fits n h network rules sound t table of marks v place down is)) e
    where
      behind : (d : Bool) → IsArcAt n h t v d (Other place) → count_from n.arcs v ≤ place
      behind false (low, high) = omega arith
      behind true (low, high) = omega arith

      -- what does not stand is before the descent
      before : (d : Bool) → IsArcAt n h t v d (Other place) → (plain_arc n t v place ≡ Stand → ⊥) → d ≡ false
      before false at apart = refl
      before true (low, high) apart = absurd (apart (only_stands n t v place low high))

      crossed : (step : Step) (a : PlainArc) → IsCore h.order v → IsCrossing step → IsStep n v time step (graph_arc n t v a).to u (graph_arc n t v a).letter → down ≡ false
          → IsMoveAlong v down time u (record { to = phase_node (graph_arc n t v a).to down; letter = (graph_arc n t v a).letter })
      crossed step a core crossing taken first = record {
        move = cross step;
        to = (graph_arc n t v a).to;
        down2 = false;
        moves = λ x. x;
        is = (first, core, crossing, taken, refl);
        leads = ap (phase_node (graph_arc n t v a).to) first;
      }

      -- the step of a ride is one
      ridden : (ride : RideCalls) (step : Step) (o : Option Instance) → option_map (λ (run : Instance). TakeRide run.trip run.day ride.board ride.alight) o ≡ Some step → IsCrossing step
      ridden ride step None none = cc
      ridden ride step (Some run) some = subst IsCrossing (some_is some) tt

      by_kind : (a : PlainArc) → plain_arc n t v place ≡ a → IsOut n t v a → arrival t time a ≡ Some u
          → IsMoveAlong v down time u (record { to = phase_node (graph_arc n t v a).to down; letter = (graph_arc n t v a).letter })
      by_kind (Road arc) at out arrives = absurd (no_road n t v place arc (behind down is) at)
      by_kind (Link link) at out arrives =
          let s = step_at n network t table of v time u (Link link) out arrives in
          let taken = subst (λ x. IsStep n v time x link.to u None) (sym (some_is s.1)) s.2 in
          crossed (TakeLink link.to) (Link link) (link_leaves_core n h targets network sound v link.to taken.0 taken.1) tt taken (before down is (λ stands. let clash = sym at ∙ stands in cc))
      by_kind Stand at (mode, has) arrives = record { move = stand; to = v; down2 = down; moves = λ x. x; is = (mode, has, refl, refl, sym (some_is arrives), has); leads = refl }
      by_kind (Ride ride) at out arrives =
          let s = step_at n network t table of v time u (Ride ride) out arrives in
          crossed s.0 (Ride ride) (stop_is_core n h targets network sound v out.stop out.at) (ridden ride s.0 (run_at t time ride) s.1) s.2 (before down is (λ stands. let clash = sym at ∙ stands in cc))

  along : (v : ℕ) (down : Bool) (i time u : ℕ) → v < length (nodes_of n) → i < phase_arcs_at n t h v down → phase_arrival n t h marks v time (phase_arc n h v down i) ≡ Some u
      → IsMoveAlong v down time u (arc_of n t h v down (phase_arc n h v down i))
  along v down i time u node lt e = by_kind (phase_arc n h v down i) (arc_is n h network rules sound t table of marks v i down lt) e
    where
      by_kind : (a : PhaseArc) → IsArcAt n h t v down a → phase_arrival n t h marks v time a ≡ Some u → IsMoveAlong v down time u (arc_of n t h v down a)
      by_kind (Up place) is arrives = up_move v time u place down is arrives
      by_kind (Down place) is arrives = down_move v time u place down is arrives
      by_kind (Other place) is arrives = other_move v time u place down node is arrives

  -- what the graph says of a node's number it says of the node
  arcs_same : (v : ℕ) (down : Bool) → g.arcs (phase_node v down) ≡ phase_arcs_at n t h v down
  arcs_same v down = ap₂ (λ x d. phase_arcs_at n t h x d) (half v down) (phase_of v down)

  arc_same : (v : ℕ) (down : Bool) (i : ℕ) → g.arc_at (phase_node v down) i ≡ arc_of n t h v down (phase_arc n h v down i)
  arc_same v down i = ap₂ (λ x d. arc_of n t h x d (phase_arc n h x d i)) (half v down) (phase_of v down)

  arrive_same : (v : ℕ) (down : Bool) (i time : ℕ) → g.arrive (phase_node v down) i time ≡ phase_arrival n t h marks v time (phase_arc n h v down i)
  arrive_same v down i time = ap₂ (λ x d. phase_arrival n t h marks x time (phase_arc n h x d i)) (half v down) (phase_of v down)

  inside : (v : ℕ) (down : Bool) → phase_node v down < 2 * length (nodes_of n) → v < length (nodes_of n)
  inside v false lt = omega arith
  inside v true lt = omega arith

  move_of : (v : ℕ) (down : Bool) (time i u : ℕ) → HasArc g (phase_node v down) i → g.arrive (phase_node v down) i time ≡ Some u → IsArcOfMove n h targets g v down time i u
  move_of v down time i u has e =
      let m = along v down i time u (inside v down has.node) (subst (λ k. i < k) (arcs_same v down) has.arc) (sym (arrive_same v down i time) ∙ e) in
      record {
        move = m.move;
        to = m.to;
        down2 = m.down2;
        moves = m.moves;
        is = subst (λ (a : GraphArc). IsPhaseMove n h targets v down time m.move m.to m.down2 u a.letter) (sym (arc_same v down i)) m.is;
        leads = ap (λ (a : GraphArc). a.to) (arc_same v down i) ∙ m.leads;
      }

  -- ---- moves have arcs

  arc_there : (v : ℕ) (down : Bool) (time i q u a : ℕ) (letter : Option ℕ) (arc : PhaseArc) → v < length (nodes_of n) → i < phase_arcs_at n t h v down → phase_arc n h v down i ≡ arc
      → phase_arrival n t h marks v time arc ≡ Some a → a ≤ u → (arc_of n t h v down arc).to ≡ q → (arc_of n t h v down arc).letter ≡ letter
      → (i : ℕ) × (a : ℕ) × IsArcBy g (phase_node v down) time q u letter i a
  arc_there v down time i q u a letter arc node lt is arrives le to tells =
      let known = arc_same v down i ∙ ap (arc_of n t h v down) is in (
        i,
        a,
        record {
          has = record { node = in_nodes v down (length (nodes_of n)) node; arc = subst (λ k. i < k) (sym (arcs_same v down)) lt };
          to = ap (λ (x : GraphArc). x.to) known ∙ to;
          tells = ap (λ (x : GraphArc). x.letter) known ∙ tells;
          arrives = arrive_same v down i time ∙ ap (phase_arrival n t h marks v time) is ∙ arrives;
          in_time = le;
        },
      )

  up_of : (u v : ℕ) → IsRise h u v → leads_up h.order u v ≡ true
  up_of u v (inl above) = rw (lt-ltb _ _ above) refl
  up_of u v (inr (here, there)) =
      let level = le-ltb (height_in h.order u) (height_in h.order v) (omega (arith, here, there)) in
      rw (level, eq-eqb _ _ here, eq-eqb _ _ there) refl

  -- the ends of an entry are nodes, and the mode of its start is known
  entry_node : (v w a : ℕ) → HasEntry h.entries v w a → v < length (nodes_of n)
  entry_node v w a e = let f = fits n h sound v w a e in road_inside n h network sound v (number_of_mode f.mode) (letter_of n.roads v _ f.from_mode)

  up_there : (v time : ℕ) (hop : Hop) → HasEntry h.entries v hop.to hop.weight → IsRise h v hop.to
      → (i : ℕ) × (a : ℕ) × IsArcBy g (phase_node v false) time (phase_node hop.to false) (time + hop.weight) (letter_at n.roads v) i a
  up_there v time hop (via, (k, lt, is)) up =
      let e : Entry = record { from = v; to = hop.to; weight = hop.weight; via = via } in
      let found = (are_rise_places h rules v).all k e (slice_get-get_or h.entries k e lt ∙ ap Some is) (record { begins = refl; leads = up_of v hop.to up }) in
      let i = found.0 in
      let place : get_or (rises_at h v false) i 0 ≡ k = get_or_default (rises_at h v false) i 0 k found.1 ∙ found.2 in
      let entry : entry_at h.entries k ≡ e = get_or_default h.entries k no_entry e lt ∙ is in
      arc_there v false time i (phase_node hop.to false) (time + hop.weight) (time + hop.weight) (letter_at n.roads v) (Up k) (entry_node v hop.to hop.weight (via, (k, lt, is)))
      (let within = found.1 in omega (arith, within)) (up_is n h v false i k found.1 place)
      (ap (λ (x : Entry). Some (time + x.weight)) entry) (omega arith) (ap (λ (x : Entry). phase_node x.to false) entry) refl

  down_there : (v : ℕ) (down : Bool) (time : ℕ) (hop : Hop) → HasEntry h.entries v hop.to hop.weight → IsAbove h.order v hop.to → IsMarked h targets hop.to
      → (i : ℕ) × (a : ℕ) × IsArcBy g (phase_node v down) time (phase_node hop.to true) (time + hop.weight) (letter_at n.roads v) i a
  down_there v down time hop (via, (k, lt, is)) above marked =
      let e : Entry = record { from = v; to = hop.to; weight = hop.weight; via = via } in
      let range = in_range_of_key from_of h.entries (from_rises h.entries rules.entries_ascend) v k e lt (ap from_of is) in
      let i = k - first_entry h v in
      let back : first_entry h v + i ≡ k = omega (arith, range.0) in
      let within : i < entries_at h v = omega (arith, range.0, range.1) in
      let entry : entry_at h.entries k ≡ e = get_or_default h.entries k no_entry e lt ∙ is in
      let ends = subst (AreEndsBelow (length marks)) is (are.long.entries k e lt) in
      let fell : is_fall h marks e ≡ true = rw (are.all hop.to ends.1 marked, are.all v ends.0 (marked_by_fall h targets k e lt is above marked), lt-ltb _ _ above) refl in
      arc_there v down time (length (rises_at h v down) + i) (phase_node hop.to true) (time + hop.weight) (time + hop.weight) (letter_at n.roads v) (Down k) (entry_node v hop.to hop.weight (via, (k, lt, is)))
      (omega (arith, within)) (down_is n h v down i k within back)
      (ap (λ (x : Entry). cond (is_fall h marks x) (Some (time + x.weight)) None) entry ∙ ap (λ b. cond b (Some (time + hop.weight)) None) fell)
      (omega arith) (ap (λ (x : Entry). phase_node x.to true) entry) refl

  other_there : (v : ℕ) (down : Bool) (time place q u a : ℕ) (letter : Option ℕ) → v < length (nodes_of n) → first_other n v down ≤ place → place < first_other n v down + others_at n t v down
      → (plain_meaning n t).arrive v place time ≡ Some a → a ≤ u → phase_node ((plain_meaning n t).arc_at v place).to down ≡ q → ((plain_meaning n t).arc_at v place).letter ≡ letter
      → (i : ℕ) × (a : ℕ) × IsArcBy g (phase_node v down) time q u letter i a
  other_there v down time place q u a letter node low high arrives le to tells =
      arc_there v down time (length (rises_at h v down) + entries_at h v + (place - first_other n v down)) q u a letter (Other place) node
      (omega (arith, low, high)) (other_is n h v down place low) arrives le to tells

  -- a node that a road arc leaves has a mode
  arc_mode : (v : ℕ) (arc : Arc) → IsArcFrom n.arcs v arc → (mode : ℕ) × (letter_at n.roads v ≡ Some mode)
  arc_mode v arc out =
      let begins = ap (λ (x : Arc). x.from) out.is ∙ out.begins in
      let covered = sound.arcs_covered out.place no_arc out.within in
      let f = fits n h sound (get_or n.arcs out.place no_arc).from (get_or n.arcs out.place no_arc).to covered.0 covered.1 in
      ((number_of_mode f.mode), ap (letter_at n.roads) (sym begins) ∙ (letter_of n.roads (get_or n.arcs out.place no_arc).from _ f.from_mode))

  no_wait : (step : Step) → IsCrossing step → IsNoWait step
  no_wait (Wait until) is = absurd is
  no_wait (TakeRoad to) is = tt
  no_wait (TakeLink to) is = tt
  no_wait StandStill is = tt
  no_wait (TakeRide trip day board alight) is = tt

  -- a link or a ride has another letter than a road arc out of its node would have
  not_driven : (v time : ℕ) (step : Step) (w u mode : ℕ) (letter : Option ℕ) → IsCrossing step → IsStep n v time step w u letter → letter_at n.roads v ≡ Some mode → letter ≡ Some mode → ⊥
  not_driven v time (Wait until) w u mode letter crossing is has same = crossing
  not_driven v time (TakeRoad to) w u mode letter crossing is has same = crossing
  not_driven v time (TakeLink to) w u mode letter crossing (ms, leads, ev, et, none) has same = let clash = sym none ∙ same in cc
  not_driven v time StandStill w u mode letter crossing is has same = crossing
  not_driven v time (TakeRide trip day board alight) w u mode letter crossing (run, on, off, ride, from, le, ew, et, el) has same =
      let clash = sym (ap (letter_at n.roads) from ∙ no_mode n on.stop) ∙ has in cc

  cross_there : (v time w u : ℕ) (step : Step) (letter : Option ℕ) → IsCrossing step → IsStep n v time step w u letter
      → (i : ℕ) × (a : ℕ) × IsArcBy g (phase_node v false) time (phase_node w false) u letter i a
  cross_there v time w u step letter crossing is =
      let way = steps_are_arcs n network t table of v time time w u step letter (omega arith) (no_wait step crossing) is in
      let past = behind way.place way.has way.same in
      let within = way.has.arc in
      other_there v false time way.place (phase_node w false) u way.at letter way.has.node (omega (arith, past)) (omega (arith, within)) way.arrives way.soon (ap (λ x. phase_node x false) way.to) way.same
    where
      behind : (place : ℕ) → HasArc (plain_meaning n t) v place → ((plain_meaning n t).arc_at v place).letter ≡ letter → count_from n.arcs v ≤ place
      behind place has same = elim (cases_lt place (count_from n.arcs v)) [
        | inr le ↦ le
        | inl lt ↦ (
            let road = get_or n.arcs ((range_from n.arcs v).0 + place) no_arc in
            let at : plain_arc n t v place ≡ Road road = rw (lt-ltb _ _ lt) refl in
            let mode = arc_mode v road (subst (IsOut n t v) at (out_of n network t table v place has.arc)) in
            let told : letter ≡ Some mode.0 = sym same ∙ ap (λ (a : PlainArc). (graph_arc n t v a).letter) at ∙ mode.1 in
            absurd (not_driven v time step w u mode.0 letter crossing is mode.1 told)
            )
      ]

  stand_there : (v : ℕ) (down : Bool) (time mode : ℕ) → letter_at n.roads v ≡ Some mode → (i : ℕ) × (a : ℕ) × IsArcBy g (phase_node v down) time (phase_node v down) time (Some mode) i a
  stand_there v down time mode has =
      let at = stand_at n t 0 0 v mode has in
      let one : stands_at n v ≡ 1 = ap (λ (o : Option ℕ). cond (is_some o) 1 0) has in
      other_there v down time (count_from n.arcs v + count_from n.links v) (phase_node v down) time time (Some mode) (road_inside n h network sound v mode has) (low down) (high down one)
      (ap (arrival t time) at) (omega arith) (ap (λ (a : PlainArc). phase_node (graph_arc n t v a).to down) at) (ap (λ (a : PlainArc). (graph_arc n t v a).letter) at ∙ has)
    where
      low : (d : Bool) → first_other n v d ≤ count_from n.arcs v + count_from n.links v
      low false = omega arith
      low true = omega arith

      high : (d : Bool) → stands_at n v ≡ 1 → count_from n.arcs v + count_from n.links v < first_other n v d + others_at n t v d
      high false one = omega (arith, one)
      high true one = omega (arith, one)

  -- an arc of another name of where it leads
  renamed : (v : ℕ) (down : Bool) (time w w2 : ℕ) (d d2 : Bool) (u u2 : ℕ) (letter letter2 : Option ℕ) → w2 ≡ w → d2 ≡ d → u2 ≡ u → letter2 ≡ letter
      → (i : ℕ) × (a : ℕ) × IsArcBy g (phase_node v down) time (phase_node w d) u letter i a → (i : ℕ) × (a : ℕ) × IsArcBy g (phase_node v down) time (phase_node w2 d2) u2 letter2 i a
  renamed v down time w w2 d d2 u u2 letter letter2 ew ed eu el (i, a, is) = (
    i,
    a,
    record {
      has = is.has;
      to = is.to ∙ ap₂ phase_node (sym ew) (sym ed);
      tells = is.tells ∙ sym el;
      arrives = is.arrives;
      in_time = (let le = is.in_time in omega (arith, le, eu));
    },
  )

  has_arc : (v : ℕ) (down : Bool) (time : ℕ) (move : PhaseMove) (w : ℕ) (down2 : Bool) (u : ℕ) (letter : Option ℕ) → IsPhaseMove n h targets v down time move w down2 u letter → (IsResting move → ⊥)
      → (i : ℕ) × (a : ℕ) × IsArcBy g (phase_node v down) time (phase_node w down2) u letter i a
  has_arc v down time (rest until) w down2 u letter is moves = absurd (moves tt)
  has_arc v down time (rise hop) w down2 u letter (before, entry, up, ew, ed, eu, el) moves =
      subst (λ d. (i : ℕ) × (a : ℕ) × IsArcBy g (phase_node v d) time (phase_node w down2) u letter i a) (sym before)
      (renamed v false time hop.to w false down2 (time + hop.weight) u (letter_at n.roads v) letter ew ed eu el (up_there v time hop entry up))
  has_arc v down time (fall hop) w down2 u letter (entry, above, marked, ew, ed, eu, el) moves =
      renamed v down time hop.to w true down2 (time + hop.weight) u (letter_at n.roads v) letter ew ed eu el (down_there v down time hop entry above marked)
  has_arc v down time (cross step) w down2 u letter (before, core, crossing, taken, ed) moves =
      subst (λ d. (i : ℕ) × (a : ℕ) × IsArcBy g (phase_node v d) time (phase_node w down2) u letter i a) (sym before)
      (renamed v false time w w false down2 u u letter letter refl ed refl refl (cross_there v time w u step letter crossing taken))
  has_arc v down time stand w down2 u letter (mode, has, ew, ed, eu, el) moves = renamed v down time v w down down2 time u (Some mode) letter ew ed eu el (stand_there v down time mode has)

  pub is_phase_graph : IsPhaseGraph n h targets (phase_meaning n t h marks)
  is_phase_graph = record { arc_of = has_arc; move_of = move_of }
