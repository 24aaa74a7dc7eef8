-- The arcs into a node are those of the network that lead there, and each begins as a step of the network does.
use Rattle.plan_base.proofs.Common.{◌≡◌, ℕ, ◌+◌, ◌-◌, ◌<◌, ◌≤◌, ◌&&◌, ◌==◌, not, nat_le, Bool, true, false, List, [], length, Option, Some, None, cond, refl, sym, ap, ◌∙◌, subst, arith, All, Contains, option_map, range_with_len, leb-true, le-leb, get_or_default, All-nil, All-cons, All-map, All-contains, All-from_get_or, length-range_with_len, get_or-range_with_len, length-map-range_with_len, get_or-map-range_with_len}
use Rattle.timetable_arcs.specs.{Instance, Ride as RideCalls, TableLists, IsIn, pattern_trip, departs, arrives, next_run, last_run, no_call, IsRideAt, IsTable}
use Rattle.timetable_arcs.proofs.{TripLemmas.known_stops, TableLemmas.next_in_words, TableLemmas.last_in_words, TableLemmas.trip_of_pattern, TableLemmas.never_back}
use Rattle.mode_network.specs.{Arc, Step, nodes_of, letter_at, mode_at, stop_node, IsNetwork, joins_modes, is_same_mode, IsTimetableOf, IsStep, NetworkLists.NetworkLists}
use Rattle.plan_base.specs.{number_of_mode, Mode}
use Rattle.mode_network.proofs.RuleLemmas.{both, some_is, same_mode_is}
use Rattle.plain_graph.specs.{PlainArc, Road, Link, Stand, Ride, pattern_call, plain_arc, graph_arc, arrival, run_at, no_arc, IsNoWait, inside.IsArcFrom, inside.IsRideFrom, inside.IsOut, inside.out_of}
use Rattle.plain_graph.proofs.Same.{step_at, steps_are_arcs}
use Rattle.latest_departure.specs.{Source, plain_arcs_of, arcs_into, arc_into, mirror_arc, run_by, begins, AlightsAt, LeadsInto, AreSources}
use Rattle.latest_departure.specs.declared.source.Source.TheVariants as source
use Rattle.latest_departure.proofs.OrderLemmas.{no_later, all_of_pieces, in_piece}

-- the arc leads to v; a ride does so from an earlier call of its pattern, where one may or may not board
pub record IsRideInto (n : NetworkLists) (t : TableLists) (v : ℕ) (ride : RideCalls) : Type 0 where
  pub alights : AlightsAt n t v ride.pattern ride.alight
  pub later : ride.board < ride.alight

abbrev pub IsInto : NetworkLists → TableLists → ℕ → PlainArc → Type 0
IsInto n t v (Road arc) = Contains n.arcs arc × (arc.to ≡ v)
IsInto n t v (Link link) = Contains n.links link × (link.to ≡ v)
IsInto n t v Stand = (mode : ℕ) × (letter_at n.roads v ≡ Some mode)
IsInto n t v (Ride ride) = IsRideInto n t v ride

abbrev ride_from : ℕ → ℕ → ℕ → PlainArc
ride_from pattern call board = Ride (record { pattern = pattern; board = board; alight = call })

module _ (n : NetworkLists) (t : TableLists) (rows : ℕ → List Source) (sources : AreSources n t rows) where
  pieces_into : (v : ℕ) (s : Source) → LeadsInto n t v s → All (IsInto n t v) (plain_arcs_of s)
  pieces_into v (source.Road arc) leads = All-cons (IsInto n t v) (Road arc) [] leads (All-nil (IsInto n t v))
  pieces_into v (source.Link link) leads = All-cons (IsInto n t v) (Link link) [] leads (All-nil (IsInto n t v))
  pieces_into v source.Stand leads = All-cons (IsInto n t v) Stand [] leads (All-nil (IsInto n t v))
  pieces_into v (source.Alight pattern call) leads =
      All-map (IsInto n t v) (ride_from pattern call) (range_with_len 0 call)
      (All-from_get_or (λ board. IsInto n t v (ride_from pattern call board)) (range_with_len 0 call) 0
      (λ i within. let few = length-range_with_len 0 call in let is = get_or-range_with_len 0 call i 0 (omega arith) in
      record { alights = leads; later = omega arith }))

  pub all_into : (v : ℕ) → v < length (nodes_of n) → All (IsInto n t v) (arcs_into rows v)
  all_into v node = all_of_pieces plain_arcs_of (IsInto n t v) (rows v) (λ s there. pieces_into v s (All-contains (LeadsInto n t v) (rows v) s (sources.fit v node) there))

  -- a place of the arc among those into v
  pub record HasPlace (v : ℕ) (a : PlainArc) : Type 0 where
    pub i : ℕ
    pub within : i < length (arcs_into rows v)
    pub is : arc_into rows v i ≡ a

  place_of : (v : ℕ) (s : Source) (a : PlainArc) → v < length (nodes_of n) → LeadsInto n t v s → Contains (plain_arcs_of s) a → HasPlace v a
  place_of v s a node leads held =
      let there = in_piece plain_arcs_of (rows v) s a (sources.whole v s node leads) held in
      record { i = there.0; within = there.1; is = get_or_default (arcs_into rows v) there.0 Stand a there.1 ∙ there.2 }

  pub place_into : (v : ℕ) (a : PlainArc) → v < length (nodes_of n) → IsInto n t v a → HasPlace v a
  place_into v (Road arc) node into = place_of v (source.Road arc) (Road arc) node into (0, omega arith, refl)
  place_into v (Link link) node into = place_of v (source.Link link) (Link link) node into (0, omega arith, refl)
  place_into v Stand node into = place_of v source.Stand Stand node into (0, omega arith, refl)
  place_into v (Ride ride) node into =
      place_of v (source.Alight ride.pattern ride.alight) (Ride ride) node into.alights (
        ride.board,
        let few = length-map-range_with_len (ride_from ride.pattern ride.alight) 0 ride.alight in let later = into.later in omega arith,
        get_or-map-range_with_len (ride_from ride.pattern ride.alight) 0 ride.alight ride.board ride.board (Ride ride) into.later (omega arith),
      )

-- on a run one is nowhere before one boards
pub rides_on : (t : TableLists) → IsTable t → (ride : RideCalls) → ride.board < ride.alight → ride.alight < length (pattern_trip t ride.pattern).calls → (run : Instance) → IsIn t ride.pattern run
    → departs t run ride.board ≤ arrives t run ride.alight
rides_on t table ride later within run is_in =
    let same = (table.patterns.alike ride.pattern run is_in).calls in
    never_back t table ride.pattern run is_in ride.board ride.alight later (omega (arith, same, within))

module _ (n : NetworkLists) (network : IsNetwork n) (t : TableLists) (table : IsTable t) (of : IsTimetableOf n t) where
  -- where a run that is to be over by a time is known, one may board, and it is one of its pattern that is over by then
  pub record IsRunBy (deadline s : ℕ) (ride : RideCalls) (run : Instance) : Type 0 where
    pub early : s ≤ deadline
    pub boards : (pattern_call t ride.pattern ride.board).board ≡ true
    pub is_in : IsIn t ride.pattern run
    pub over : arrives t run ride.alight ≤ deadline - s
    pub last : (other : Instance) → IsIn t ride.pattern other → arrives t other ride.alight ≤ deadline - s → departs t other ride.alight ≤ departs t run ride.alight

  pub run_is_by : (deadline s : ℕ) (ride : RideCalls) → ride.alight < length (pattern_trip t ride.pattern).calls → (run : Instance) → run_by t deadline s ride ≡ Some run → IsRunBy deadline s ride run
  run_is_by deadline s ride within run e = on_test (nat_le s deadline && (pattern_call t ride.pattern ride.board).board) refl e
    where
      on_test : (b : Bool) → nat_le s deadline && (pattern_call t ride.pattern ride.board).board ≡ b
          → cond b (last_run t ride.pattern ride.alight (deadline - s)) None ≡ Some run → IsRunBy deadline s ride run
      on_test false test none = cc
      on_test true test some =
          let parts = both (nat_le s deadline) (pattern_call t ride.pattern ride.board).board test in
          let last = last_in_words t table ride.pattern ride.alight (deadline - s) (Some run) within some in
          record { early = leb-true s deadline parts.0; boards = parts.1; is_in = last.is_in; over = last.in_time; last = last.last }

  -- the other way: where one may board and some run is over by then, a run is known
  pub run_there : (deadline s : ℕ) (ride : RideCalls) → ride.alight < length (pattern_trip t ride.pattern).calls → s ≤ deadline → (pattern_call t ride.pattern ride.board).board ≡ true
      → (other : Instance) → IsIn t ride.pattern other → arrives t other ride.alight ≤ deadline - s → (run : Instance) × (run_by t deadline s ride ≡ Some run)
  run_there deadline s ride within early boards other is_in over = on_run (last_run t ride.pattern ride.alight (deadline - s)) refl
    where
      open_test : nat_le s deadline && (pattern_call t ride.pattern ride.board).board ≡ true
      open_test = ap (λ (b : Bool). b && (pattern_call t ride.pattern ride.board).board) (le-leb s deadline early) ∙ boards

      on_run : (o : Option Instance) → last_run t ride.pattern ride.alight (deadline - s) ≡ o → (run : Instance) × (run_by t deadline s ride ≡ Some run)
      on_run None e = let none = last_in_words t table ride.pattern ride.alight (deadline - s) None within e in absurd (omega (arith, none other is_in))
      on_run (Some run) e = (run, ap (λ (b : Bool). cond b (last_run t ride.pattern ride.alight (deadline - s)) None) open_test ∙ e)

  -- an arc into a node is one out of the node where it begins; of a ride this needs that one may board
  ride_out : (v : ℕ) (ride : RideCalls) → IsRideInto n t v ride → (pattern_call t ride.pattern ride.board).board ≡ true
      → IsRideFrom n t (stop_node n (pattern_call t ride.pattern ride.board).stop) ride
  ride_out v ride into boards =
      let alights = into.alights in
      let known = known_stops t.stops (pattern_trip t ride.pattern) (trip_of_pattern t table ride.pattern alights.is_pattern).known in
      let stop = known ride.board no_call (let l = into.later in let w = alights.within in omega arith) in
      record {
        stop = (pattern_call t ride.pattern ride.board).stop;
        is_stop = subst (λ stops. (pattern_call t ride.pattern ride.board).stop < stops) of.stops stop;
        at = refl;
        ride_at = record { pattern = alights.is_pattern; later = into.later; within = alights.within; at_stop = refl; boards = boards; alights = alights.alights };
      }

  listed_from : (arcs : List Arc) (arc : Arc) → Contains arcs arc → IsArcFrom arcs arc.from arc
  listed_from arcs arc (place, within, is) = record { place = place; within = within; is = get_or_default arcs place no_arc arc within ∙ is; begins = refl }

  -- a step from v at t that is at w by u
  pub record HasStep (v t0 w u : ℕ) (letter : Option ℕ) : Type 0 where
    pub step : Step
    pub at : ℕ
    pub is : IsStep n v t0 step w at letter
    pub soon : at ≤ u

  same_of : (a b : Option Mode) → is_same_mode a b ≡ true → a ≡ b
  same_of (Some a) (Some b) e = ap Some (same_mode_is a b e)
  same_of (Some a) None e = cc
  same_of None b e = cc

  -- a road arc has one mode at both ends
  pub one_mode : (arc : Arc) → Contains n.arcs arc → letter_at n.roads arc.from ≡ letter_at n.roads arc.to
  one_mode arc there =
      let joins = All-contains (λ (a : Arc). joins_modes n.roads a ≡ true) n.arcs arc network.arcs_join there in
      ap (option_map number_of_mode) (same_of (mode_at n.roads arc.from) (mode_at n.roads arc.to) (both (is_same_mode (mode_at n.roads arc.from) (mode_at n.roads arc.to)) (not (arc.from == arc.to)) joins).0)

  -- an arc out of v that is taken at t0 is at w by u, and this is its letter
  pub record IsTakenBy (v t0 w u : ℕ) (letter : Option ℕ) (a : PlainArc) : Type 0 where
    pub at : ℕ
    pub out : IsOut n t v a
    pub arrives : arrival t t0 a ≡ Some at
    pub soon : at ≤ u
    pub to : (graph_arc n t v a).to ≡ w
    pub same : (graph_arc n t v a).letter ≡ letter

  -- an arc of mirrored time that is taken by when it says arrives by the deadline less the moment at which it is taken
  pub arc_taken : (deadline v s s2 t0 : ℕ) (a : PlainArc) → IsInto n t v a → begins t deadline s a ≡ Some s2 → s2 ≤ deadline → t0 ≤ deadline - s2
      → IsTakenBy (mirror_arc n t v a).to t0 v (deadline - s) (mirror_arc n t v a).letter a
  arc_taken deadline v s s2 t0 (Road arc) (there, to) e le early =
      let is = some_is e in
      record {
        at = t0 + arc.ms;
        out = listed_from n.arcs arc there;
        arrives = refl;
        soon = omega arith;
        to = to;
        same = one_mode arc there ∙ ap (letter_at n.roads) to;
      }
  arc_taken deadline v s s2 t0 (Link link) (there, to) e le early =
      let is = some_is e in
      record { at = t0 + link.ms; out = listed_from n.links link there; arrives = refl; soon = omega arith; to = to; same = refl }
  arc_taken deadline v s s2 t0 Stand into e le early =
      let is = some_is e in
      record { at = t0; out = into; arrives = refl; soon = omega arith; to = refl; same = refl }
  arc_taken deadline v s s2 t0 (Ride ride) into e le early = on_run (run_by t deadline s ride) refl e
    where
      from : ℕ
      from = stop_node n (pattern_call t ride.pattern ride.board).stop

      on_next : (run : Instance) → IsRunBy deadline s ride run → deadline - departs t run ride.board ≡ s2 → (o : Option Instance) → next_run t ride.pattern ride.board t0 ≡ o
          → IsTakenBy from t0 v (deadline - s) (Some (pattern_trip t ride.pattern).letter) (Ride ride)
      on_next run by is None none =
          let later = into.later in let within = into.alights.within in
          let never = next_in_words t table ride.pattern ride.board t0 None (omega arith) none run by.is_in in
          let over = by.over in
          let on = rides_on t table ride into.later within run by.is_in in
          absurd (omega arith)
      on_next run by is (Some other) some =
          let later = into.later in let within = into.alights.within in
          let over = by.over in
          let on = rides_on t table ride into.later within run by.is_in in
          let first = next_in_words t table ride.pattern ride.board t0 (Some other) (omega arith) some in
          let no_more = first.first run by.is_in (omega arith) in
          let order = no_later t table ride.pattern other run first.is_in by.is_in ride.board (omega arith) no_more ride.alight within in
          let arrives_by = order.arrives in
          record {
            at = arrives t other ride.alight;
            out = ride_out v ride into by.boards;
            arrives = ap (option_map (λ (r : Instance). arrives t r ride.alight)) some;
            soon = omega arith;
            to = sym into.alights.at;
            same = refl;
          }

      on_run : (o : Option Instance) → run_by t deadline s ride ≡ o → option_map (λ (run : Instance). deadline - departs t run ride.board) o ≡ Some s2
          → IsTakenBy from t0 v (deadline - s) (Some (pattern_trip t ride.pattern).letter) (Ride ride)
      on_run None by none = cc
      on_run (Some run) by some = on_next run (run_is_by deadline s ride into.alights.within run by) (some_is some) (next_run t ride.pattern ride.board t0) refl

  -- so it is a step that begins when the arc says
  pub arc_steps : (deadline v s s2 : ℕ) (a : PlainArc) → IsInto n t v a → begins t deadline s a ≡ Some s2 → s2 ≤ deadline
      → HasStep (mirror_arc n t v a).to (deadline - s2) v (deadline - s) (mirror_arc n t v a).letter
  arc_steps deadline v s s2 a into e le =
      let from = (mirror_arc n t v a).to in
      let taken = arc_taken deadline v s s2 (deadline - s2) a into e le (omega arith) in
      let step = step_at n network t table of from (deadline - s2) taken.at a taken.out taken.arrives in
      record {
        step = step.0;
        at = taken.at;
        is = subst (λ (c : Option ℕ). IsStep n from (deadline - s2) step.0 v taken.at c) taken.same
            (subst (λ w. IsStep n from (deadline - s2) step.0 w taken.at (graph_arc n t from a).letter) taken.to step.2);
        soon = taken.soon;
      }

  -- an arc into w that is taken at the deadline less u begins no earlier than t, at v and with this letter
  pub record HasBack (deadline v t0 w u : ℕ) (letter : Option ℕ) : Type 0 where
    pub arc : PlainArc
    pub into : IsInto n t w arc
    pub moment : ℕ
    pub begins_then : begins t deadline (deadline - u) arc ≡ Some moment
    pub soon : moment ≤ deadline - t0
    pub to : (mirror_arc n t w arc).to ≡ v
    pub same : (mirror_arc n t w arc).letter ≡ letter

  back_of : (deadline v t0 w u at : ℕ) (letter : Option ℕ) → u ≤ deadline → (a : PlainArc) → IsOut n t v a → arrival t t0 a ≡ Some at → at ≤ u → (graph_arc n t v a).to ≡ w
      → (graph_arc n t v a).letter ≡ letter → HasBack deadline v t0 w u letter
  back_of deadline v t0 w u at letter early (Road arc) out e soon to same =
      let is = some_is e in
      let there : Contains n.arcs arc = (out.place, out.within, get_or_default n.arcs out.place arc no_arc out.within ∙ out.is) in
      record {
        arc = Road arc;
        into = (there, to);
        moment = deadline - u + arc.ms;
        begins_then = refl;
        soon = omega arith;
        to = out.begins;
        same = ap (letter_at n.roads) (sym to) ∙ sym (one_mode arc there) ∙ ap (letter_at n.roads) out.begins ∙ same;
      }
  back_of deadline v t0 w u at letter early (Link link) out e soon to same =
      let is = some_is e in
      let there : Contains n.links link = (out.place, out.within, get_or_default n.links out.place link no_arc out.within ∙ out.is) in
      record { arc = Link link; into = (there, to); moment = deadline - u + link.ms; begins_then = refl; soon = omega arith; to = out.begins; same = same }
  back_of deadline v t0 w u at letter early Stand (mode, has) e soon to same =
      let is = some_is e in
      record {
        arc = Stand;
        into = (mode, subst (λ x. letter_at n.roads x ≡ Some mode) to has);
        moment = deadline - u;
        begins_then = refl;
        soon = omega arith;
        to = sym to;
        same = ap (letter_at n.roads) (sym to) ∙ same;
      }
  back_of deadline v t0 w u at letter early (Ride ride) out e soon to same = on_run (run_at t t0 ride) refl e
    where
      is_ride : IsRideAt t out.stop ride
      is_ride = out.ride_at

      on_run : (o : Option Instance) → run_at t t0 ride ≡ o → option_map (λ (run : Instance). arrives t run ride.alight) o ≡ Some at → HasBack deadline v t0 w u letter
      on_run None none = λ e. cc
      on_run (Some run) some = λ e.
          let is = some_is e in
          let later = is_ride.later in let within = is_ride.within in
          let first = next_in_words t table ride.pattern ride.board t0 (Some run) (omega arith) some in
          let by = run_there deadline (deadline - u) ride is_ride.within (omega arith) is_ride.boards run first.is_in (omega arith) in
          let known = run_is_by deadline (deadline - u) ride is_ride.within by.0 by.1 in
          let order = no_later t table ride.pattern run by.0 first.is_in known.is_in ride.alight is_ride.within (known.last run first.is_in (omega arith)) ride.board (omega arith) in
          let departs_by = order.departs in
          let in_time = first.in_time in
          record {
            arc = Ride ride;
            into = record { alights = record { is_pattern = is_ride.pattern; within = is_ride.within; alights = is_ride.alights; at = sym to }; later = is_ride.later };
            moment = deadline - departs t by.0 ride.board;
            begins_then = ap (option_map (λ (r : Instance). deadline - departs t r ride.board)) by.1;
            soon = omega arith;
            to = ap (stop_node n) is_ride.at_stop ∙ sym out.at;
            same = same;
          }

  -- a step from v at t0 that is at w at u, by the deadline, is an arc of mirrored time
  pub step_back : (deadline v t0 w u : ℕ) (step : Step) (letter : Option ℕ) → IsNoWait step → IsStep n v t0 step w u letter → u ≤ deadline → HasBack deadline v t0 w u letter
  step_back deadline v t0 w u step letter moves is early =
      let way = steps_are_arcs n network t table of v t0 t0 w u step letter (omega arith) moves is in
      back_of deadline v t0 w u way.at letter early (plain_arc n t v way.place) (out_of n network t table v way.place way.has.arc) way.arrives way.soon way.to way.same
