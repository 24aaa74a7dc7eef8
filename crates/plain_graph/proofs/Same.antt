-- The walks of the graph of a network are its journeys, step by step.
use Rattle.plan_base.proofs.Common.{◌≡◌, ℕ, ◌++◌, ◌∷◌, [], ◌∙◌, ◌≤◌, ◌<◌, List, length, Option, Some, None, refl, ap, sym, subst, arith, option_to_list, option_map, slice_index_or, get_or_default, slice_get-get_or, slice_get_within, get_or_from_slice_get}
use Rattle.search_laws.specs.{wait, arc, IsWalk, word_from}
use Rattle.timetable_arcs.specs.{Call, Instance, Ride as RideCalls, TripLists, IsRunOf, IsRide, arrival_of, departure_of, TableLists, IsIn, IsAlike, AreAlike, trip_at, pattern_trip, call_of, departs, arrives, no_trip, no_call, IsRideAt, IsTable}
use Rattle.timetable_arcs.proofs.{TableLemmas.next_first, TableLemmas.next_none, TableLemmas.trip_of_run, TripLemmas.known_stops, RunLemmas.within_patterns}
use Rattle.mode_network.specs.{Arc, Step, Wait, Link as TakeLink, Stand as StandStill, Ride as TakeRide, stop_node, IsNetwork, IsTimetableOf, Leads, IsStep, declared.steps.Step.TheVariants.Road as TakeRoad, NetworkLists.NetworkLists}
use Rattle.plain_graph.specs.{PlainArc, Road, Link, Stand, Ride, plain_arc, plain_meaning, graph_arc, run_at, arrival, no_arc, pattern_call, step_of, WalksAreJourneys, HasPlainWalk, JourneysAreWalks, ArcsAreSteps, HasArcBy, IsNoWait, StepsAreArcs, takes, alights_within, node_of, plain_lawful, inside.IsArcFrom, inside.IsRideFrom, inside.IsOut, inside.out_of, inside.place_of}
use Rattle.mode_network.proofs.RuleLemmas.{some_is}

abbrev arc_of : ℕ → ℕ → ℕ → Arc
arc_of v w ms = record { from = v; to = w; ms = ms }

leads_of : (arcs : List Arc) (v : ℕ) (a : Arc) → IsArcFrom arcs v a → Leads arcs v a.to a.ms
leads_of arcs v a out =
    let there = arc_of v a.to a.ms in
    let same : a ≡ there = ap (λ (x : ℕ). arc_of x a.to a.ms) out.begins in
    (out.place, out.within, get_or_default arcs out.place there no_arc out.within ∙ (out.is ∙ same))

listed_of : (arcs : List Arc) (v w ms : ℕ) → Leads arcs v w ms → IsArcFrom arcs v (arc_of v w ms)
listed_of arcs v w ms (place, within, is) = record {
  place = place;
  within = within;
  is = get_or_default arcs place no_arc (arc_of v w ms) within ∙ is;
  begins = refl;
}

-- no arc is a wait
no_wait : (table : TableLists) (t : ℕ) (a : PlainArc) (step : Step) → step_of table t a ≡ Some step → IsNoWait step
no_wait table t (Road a) step is = subst IsNoWait (some_is is) tt
no_wait table t (Link a) step is = subst IsNoWait (some_is is) tt
no_wait table t Stand step is = subst IsNoWait (some_is is) tt
no_wait table t (Ride ride) step is = by_run (run_at table t ride) is
  where
    by_run : (o : Option Instance) → option_map (λ (run : Instance). TakeRide run.trip run.day ride.board ride.alight) o ≡ Some step → IsNoWait step
    by_run None none = cc
    by_run (Some run) some = subst IsNoWait (some_is some) tt

module _ (n : NetworkLists) (network : IsNetwork n) (table : TableLists) (keeps : IsTable table) (of : IsTimetableOf n table) where
  -- a run of a pattern may be ridden where the pattern may
  run_rides : (stop : ℕ) (ride : RideCalls) → IsRideAt table stop ride → (run : Instance) → IsIn table ride.pattern run
      → IsRide n.trips run.trip run.day ride.board ride.alight (trip_at table run.trip) (call_of table run ride.board) (call_of table run ride.alight)
  run_rides stop ride is run is_in =
      let runs = keeps.patterns.are_runs ride.pattern run is_in in
      let alike = keeps.patterns.alike ride.pattern run is_in in
      let within = alights_within table keeps stop ride is run is_in in
      let boards_within = is.later in
      record {
        run = subst (λ trips. IsRunOf trips run.trip run.day (trip_at table run.trip)) of.trips runs;
        on_is = slice_get-get_or (trip_at table run.trip).calls ride.board no_call (omega (arith, within, boards_within));
        off_is = slice_get-get_or (trip_at table run.trip).calls ride.alight no_call within;
        later = is.later;
        boards = sym (alike.each ride.board no_call (omega (arith, is.within, boards_within))).board ∙ is.boards;
        alights = sym (alike.each ride.alight no_call is.within).alight ∙ is.alights;
      }

  ride_step : (v t at : ℕ) (ride : RideCalls) → IsRideFrom n table v ride → (run : Option Instance) → run_at table t ride ≡ run
      → option_map (λ r. arrives table r ride.alight) run ≡ Some at
      → (step : Step) × (option_map (λ (r : Instance). TakeRide r.trip r.day ride.board ride.alight) run ≡ Some step) × IsStep n v t step (graph_arc n table v (Ride ride)).to at (graph_arc n table v (Ride ride)).letter
  ride_step v t at ride out None e none = cc
  ride_step v t at ride out (Some run) e some =
      let is = out.ride_at in
      let (is_in, in_time) = takes table keeps out.stop ride is t run e in
      let alike = keeps.patterns.alike ride.pattern run is_in in
      let on = alike.each ride.board no_call (omega (arith, is.within, is.later)) in
      let off = alike.each ride.alight no_call is.within in
      let bases = of.bases in (
        TakeRide run.trip run.day ride.board ride.alight,
        refl,
        (
          trip_at table run.trip,
          call_of table run ride.board,
          call_of table run ride.alight,
          run_rides out.stop ride is run is_in,
          out.at ∙ ap (stop_node n) (sym is.at_stop ∙ on.stop),
          subst (λ bases. t ≤ departure_of bases run.day (call_of table run ride.board)) bases in_time,
          ap (stop_node n) off.stop,
          sym (some_is some) ∙ ap (λ bases. arrival_of bases run.day (call_of table run ride.alight)) bases,
          ap Some alike.letter,
        ),
      )

  -- an arc that arrives is a step of the network
  pub step_at : (v t at : ℕ) (a : PlainArc) → IsOut n table v a → arrival table t a ≡ Some at
      → (step : Step) × (step_of table t a ≡ Some step) × IsStep n v t step (graph_arc n table v a).to at (graph_arc n table v a).letter
  step_at v t at (Road a) out e = (TakeRoad a.to, refl, (a.ms, leads_of n.arcs v a out, refl, sym (some_is e), refl))
  step_at v t at (Link a) out e = (TakeLink a.to, refl, (a.ms, leads_of n.links v a out, refl, sym (some_is e), refl))
  step_at v t at Stand (mode, has) e = (StandStill, refl, (mode, has, refl, sym (some_is e), has))
  step_at v t at (Ride ride) out e = ride_step v t at ride out (run_at table t ride) refl e

  pub walks_are_journeys : WalksAreJourneys n table
  walks_are_journeys v t [] w u (same, now) = ([], (same, now, refl))
  walks_are_journeys v t (wait until ∷ walk) w u (later, leads) =
      let rest = walks_are_journeys v until walk w u leads in
      (Wait until ∷ rest.0, (v, until, None, _, (later, refl, refl, refl), rest.1, refl))
  walks_are_journeys v t (arc i ∷ walk) w u (at, has, arrives_at, leads) =
      let rest = walks_are_journeys ((plain_meaning n table).arc_at v i).to at walk w u leads in
      let step = step_at v t at (plain_arc n table v i) (out_of n network table keeps v i has.arc) arrives_at in
      (step.0 ∷ rest.0, (_, at, _, _, step.2, rest.1, refl))

  pub arcs_are_steps : ArcsAreSteps n table
  arcs_are_steps v i t u has arrives =
      let step = step_at v t u (plain_arc n table v i) (out_of n network table keeps v i has.arc) arrives in
      (step.0, no_wait table t (plain_arc n table v i) step.0 step.1, step.2)

  takes_arc : (v t at : ℕ) (a : PlainArc) (w u : ℕ) (letter : Option ℕ) → IsOut n table v a
      → (graph_arc n table v a).to ≡ w → arrival table t a ≡ Some at → at ≤ u → (graph_arc n table v a).letter ≡ letter → HasArcBy n table v t w u letter
  takes_arc v t at a w u letter out to arrives_at soon same =
      let place = place_of n network table keeps v a out in
      record {
        place = place.i;
        at = at;
        has = record { node = node_of n network table keeps of v a out; arc = place.within };
        arrives = ap (arrival table t) place.is ∙ arrives_at;
        soon = soon;
        to = ap (λ (x : PlainArc). (graph_arc n table v x).to) place.is ∙ to;
        same = ap (λ (x : PlainArc). (graph_arc n table v x).letter) place.is ∙ same;
      }

  -- the arc, a wait until the step ends, and then on
  go_on : (v t w1 t1 : ℕ) (letter : Option ℕ) (w u : ℕ) (rest letters : List ℕ) → HasArcBy n table v t w1 t1 letter → HasPlainWalk n table w1 t1 w u rest → letters ≡ option_to_list letter ++ rest
      → HasPlainWalk n table v t w u letters
  go_on v t w1 t1 letter w u rest letters first later e =
      let g = plain_meaning n table in
      let word : word_from g (g.arc_at v first.place).to later.walk ≡ rest = subst (λ x. word_from g x later.walk ≡ rest) (sym first.to) later.word in
      record {
        walk = arc first.place ∷ wait t1 ∷ later.walk;
        leads = (first.at, first.has, first.arrives, (first.soon, subst (λ x. IsWalk g x t1 later.walk w u) (sym first.to) later.leads));
        word = rw (first.same, word) (sym e);
      }

  -- the step of a ride: some run of its pattern is no later
  ride_taken : (v t w u trip day board alight : ℕ) (letter : Option ℕ) → IsStep n v t (TakeRide trip day board alight) w u letter → HasArcBy n table v t w u letter
  ride_taken v t w u trip day board alight letter (held, on, off, rides, from, in_time, to, at, read) = on_run (run_at table t ride) refl
    where
      run : Instance
      run = record { trip = trip; day = day }

      is_run : IsRunOf table.trips trip day held
      is_run = subst (λ trips. IsRunOf trips trip day held) (sym of.trips) rides.run

      sorted : (p : ℕ) × IsIn table p run
      sorted = keeps.patterns.each run held is_run

      ride : RideCalls
      ride = record { pattern = sorted.0; board = board; alight = alight }

      alike : AreAlike (pattern_trip table sorted.0) (trip_at table trip)
      alike = keeps.patterns.alike sorted.0 run sorted.1

      held_is : trip_at table trip ≡ held
      held_is = get_or_from_slice_get table.trips trip held no_trip is_run.is

      on_is : call_of table run board ≡ on
      on_is = ap (λ (x : TripLists). slice_index_or x.calls board no_call) held_is ∙ get_or_from_slice_get held.calls board on no_call rides.on_is

      off_is : call_of table run alight ≡ off
      off_is = ap (λ (x : TripLists). slice_index_or x.calls alight no_call) held_is ∙ get_or_from_slice_get held.calls alight off no_call rides.off_is

      within : alight < length (pattern_trip table sorted.0).calls
      within =
          let inside = slice_get_within held.calls alight off rides.off_is in
          let calls = ap (λ (x : TripLists). length x.calls) held_is in
          omega (arith, inside, calls, alike.calls)

      board_within : board < length (pattern_trip table sorted.0).calls
      board_within = omega (arith, within, rides.later)

      boards : IsAlike (pattern_call table sorted.0 board) on
      boards = subst (IsAlike (pattern_call table sorted.0 board)) on_is (alike.each board no_call board_within)

      ends : IsAlike (pattern_call table sorted.0 alight) off
      ends = subst (IsAlike (pattern_call table sorted.0 alight)) off_is (alike.each alight no_call within)

      is : IsRideAt table on.stop ride
      is = record {
        pattern = within_patterns table keeps.patterns sorted.0 run sorted.1;
        later = rides.later;
        within = within;
        at_stop = boards.stop;
        boards = boards.board ∙ rides.boards;
        alights = ends.alight ∙ rides.alights;
      }

      on_stop : on.stop < length n.stops
      on_stop =
          let known = known_stops table.stops (trip_at table trip) (trip_of_run table keeps sorted.0 run sorted.1).known in
          let inside : board < length (trip_at table trip).calls = omega (arith, board_within, alike.calls) in
          subst (λ stops. on.stop < stops) of.stops (subst (λ (call : Call). call.stop < table.stops) on_is (known board no_call inside))

      out : IsRideFrom n table v ride
      out = record { stop = on.stop; is_stop = on_stop; at = from; ride_at = is }

      departs_in_time : t ≤ departs table run board
      departs_in_time = rw (of.bases, on_is) in_time

      on_run : (o : Option Instance) → run_at table t ride ≡ o → HasArcBy n table v t w u letter
      on_run None none = let late = next_none table keeps sorted.0 board t run none sorted.1 in absurd (omega (arith, late, departs_in_time))
      on_run (Some next) found =
          let soon = next_first table keeps sorted.0 board t next run board_within found sorted.1 departs_in_time alight within in
          let arrives_then : arrives table run alight ≡ u = rw (of.bases, off_is) (sym at) in
          takes_arc v t (arrives table next alight) (Ride ride) w u letter out (ap (stop_node n) ends.stop ∙ sym to) (ap (option_map (λ r. arrives table r alight)) found) (omega (arith, soon, arrives_then))
          (ap Some (alike.letter ∙ ap (λ (x : TripLists). x.letter) held_is) ∙ sym read)

  no_later : (a : ℕ) → a ≤ a
  no_later a = omega arith

  -- a step that is no wait is an arc that arrives no later
  arc_for : (v t w u : ℕ) (step : Step) (letter : Option ℕ) → IsNoWait step → IsStep n v t step w u letter → HasArcBy n table v t w u letter
  arc_for v t w u (Wait until) letter moves is = absurd moves
  arc_for v t w u (TakeRoad to) letter moves (ms, leads, same, now, read) =
      takes_arc v t u (Road (arc_of v to ms)) w u letter (listed_of n.arcs v to ms leads) (sym same) (ap Some (sym now)) (no_later u) (sym read)
  arc_for v t w u (TakeLink to) letter moves (ms, leads, same, now, read) =
      takes_arc v t u (Link (arc_of v to ms)) w u letter (listed_of n.links v to ms leads) (sym same) (ap Some (sym now)) (no_later u) (sym read)
  arc_for v t w u StandStill letter moves (mode, has, same, now, read) =
      takes_arc v t u Stand w u letter (mode, has) (sym same) (ap Some (sym now)) (no_later u) (has ∙ sym read)
  arc_for v t w u (TakeRide trip day board alight) letter moves ride = ride_taken v t w u trip day board alight letter ride

  -- an arc that is taken earlier arrives no later
  sooner : (v t s w u : ℕ) (letter : Option ℕ) → t ≤ s → HasArcBy n table v s w u letter → HasArcBy n table v t w u letter
  sooner v t s w u letter h way = on_arrival ((plain_meaning n table).arrive v way.place t) refl
    where
      on_arrival : (o : Option ℕ) → (plain_meaning n table).arrive v way.place t ≡ o → HasArcBy n table v t w u letter
      on_arrival None e =
          let never = (plain_lawful n network table keeps of).stays_none v way.place t s way.has h e in
          let then = way.arrives in
          cc
      on_arrival (Some at) e =
          let rises = (plain_lawful n network table keeps of).rises v way.place t s at way.at way.has h e way.arrives in
          record { place = way.place; at = at; has = way.has; arrives = e; soon = omega (arith, rises, way.soon); to = way.to; same = way.same }

  pub steps_are_arcs : StepsAreArcs n table
  steps_are_arcs v t s w u step letter h moves is = sooner v t s w u letter h (arc_for v s w u step letter moves is)

  pub journeys_are_walks : JourneysAreWalks n table
  journeys_are_walks v t [] w u letters (same, now, none) = record { walk = []; leads = (same, now); word = sym none }
  journeys_are_walks v t (Wait until ∷ steps) w u letters (v1, t1, letter, rest, (later, same, now, none), more, e) =
      let walk = subst (λ x. HasPlainWalk n table x until w u rest) same (subst (λ x. HasPlainWalk n table v1 x w u rest) now (journeys_are_walks v1 t1 steps w u rest more)) in
      record { walk = wait until ∷ walk.walk; leads = (later, walk.leads); word = walk.word ∙ sym (e ∙ ap (λ (x : Option ℕ). option_to_list x ++ rest) none) }
  journeys_are_walks v t (TakeRoad to ∷ steps) w u letters (v1, t1, letter, rest, step, more, e) =
      go_on v t v1 t1 letter w u rest letters (arc_for v t v1 t1 (TakeRoad to) letter tt step) (journeys_are_walks v1 t1 steps w u rest more) e
  journeys_are_walks v t (TakeLink to ∷ steps) w u letters (v1, t1, letter, rest, step, more, e) =
      go_on v t v1 t1 letter w u rest letters (arc_for v t v1 t1 (TakeLink to) letter tt step) (journeys_are_walks v1 t1 steps w u rest more) e
  journeys_are_walks v t (StandStill ∷ steps) w u letters (v1, t1, letter, rest, step, more, e) =
      go_on v t v1 t1 letter w u rest letters (arc_for v t v1 t1 StandStill letter tt step) (journeys_are_walks v1 t1 steps w u rest more) e
  journeys_are_walks v t (TakeRide trip day board alight ∷ steps) w u letters (v1, t1, letter, rest, step, more, e) =
      go_on v t v1 t1 letter w u rest letters (arc_for v t v1 t1 (TakeRide trip day board alight) letter tt step) (journeys_are_walks v1 t1 steps w u rest more) e
