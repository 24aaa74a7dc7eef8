-- The steps of a walk are a journey.
use Rattle.plan_base.proofs.Common.{◌≡◌, ℕ, ◌^◌, ◌<◌, ◌≤◌, ◌∙◌, cond, nat_lt, Bool, true, false, List, [], ◌∷◌, ◌++◌, Option, Some, None, refl, ap, sym, subst, arith, All, option_to_list, option_map, slice_index_or, ltb-true, ltb-false, get_or_from_slice_get, All-cons, All-append}
use Rattle.search_laws.specs.{GraphMeaning, LabelsMeaning, word_from}
use Rattle.product_search.specs.{AreWalkHops, Hop}
use Rattle.product_search.proofs.HopLemmas.{arcs_of}
use Rattle.timetable_arcs.specs.{Instance, TripLists, departure_of, TableLists, departs, no_trip, no_call, IsTable}
use Rattle.timetable_arcs.proofs.TableLemmas.{departs_small}
use Rattle.mode_network.specs.{Step, Wait, Link, Stand, Ride as TakeRide, IsNetwork, IsTimetableOf, IsStep, AreSteps, declared.steps.Step.TheVariants.Road, NetworkLists.NetworkLists}
use Rattle.journey.specs.{AreOnTime, DepartsAt}
use Rattle.plain_graph.specs.{PlainArc, Road as RoadArc, Link as LinkArc, Stand as StandArc, Ride as RideArc, plain_meaning, plain_arc, graph_arc, run_at, step_of, alights_within, takes, inside.IsOut, inside.out_of}
use Rattle.plain_graph.proofs.Same.{step_at}
use Rattle.unpack.specs.{letters_in, AreHopsIn, ArePlainHops, HaveArcs, IsSoon, leaves_at, with_wait, steps_of, node_after, arrival_after, letters_of}

module _ (n : NetworkLists) (network : IsNetwork n) (table : TableLists) (keeps : IsTable table) (of : IsTimetableOf n table) where
  -- a step leaves at t or later, and can be taken then; where it is a ride, it departs then
  pub record Leaves (v t : ℕ) (step : Step) (w u : ℕ) (letter : Option ℕ) : Type 0 where
    pub later : t ≤ leaves_at table t step
    pub is : IsStep n v (leaves_at table t step) step w u letter
    pub departs : DepartsAt n (leaves_at table t step) step

  pub leaves : (v t : ℕ) (step : Step) (w u : ℕ) (letter : Option ℕ) → IsStep n v t step w u letter → Leaves v t step w u letter
  leaves v t (Wait until) w u letter is = record { later = omega arith; is = is; departs = tt }
  leaves v t (Road to) w u letter is = record { later = omega arith; is = is; departs = tt }
  leaves v t (Link to) w u letter is = record { later = omega arith; is = is; departs = tt }
  leaves v t Stand w u letter is = record { later = omega arith; is = is; departs = tt }
  leaves v t (TakeRide trip day board alight) w u letter (run, on, off, rides, from, in_time, to, at, read) =
      let trip_is = get_or_from_slice_get n.trips trip run no_trip rides.run.is in
      let call_is : slice_index_or (slice_index_or n.trips trip no_trip).calls board no_call ≡ on =
      ap (λ (x : TripLists). slice_index_or x.calls board no_call) trip_is ∙ get_or_from_slice_get run.calls board on no_call rides.on_is in
      let same : departs table (record { trip = trip; day = day }) board ≡ departure_of n.days.bases day on = rw (of.trips, of.bases, call_is) refl in
      record {
        later = omega (arith, same, in_time);
        is = (run, on, off, rides, from, omega (arith, same), to, at, read);
        departs = rw (of.trips, of.bases) refl;
      }

  -- steps that are on time, behind a step with a wait before it
  pub behind : (v t : ℕ) (step : Step) (w u : ℕ) (letter : Option ℕ) (steps : List Step) (x y : ℕ) (rest : List ℕ) → Leaves v t step w u letter
      → AreOnTime n w u steps x y rest → AreOnTime n v t (with_wait table t (Some step) ++ steps) x y (option_to_list letter ++ rest)
  behind v t step w u letter steps x y rest at more = on_test (nat_lt t (leaves_at table t step)) refl
    where
      on_test : (b : Bool) → nat_lt t (leaves_at table t step) ≡ b
          → AreOnTime n v t ((cond b (Wait (leaves_at table t step) ∷ step ∷ []) (step ∷ [])) ++ steps) x y (option_to_list letter ++ rest)
      on_test true e = (v, leaves_at table t step, None, option_to_list letter ++ rest, (at.later, refl, refl, refl), tt, (w, u, letter, rest, at.is, at.departs, more, refl), refl)
      on_test false e =
          let late = ltb-false t (leaves_at table t step) e in
          let now : leaves_at table t step ≡ t = omega (arith, late, at.later) in
          (w, u, letter, rest, subst (λ at. IsStep n v at step w u letter) now at.is, subst (λ at. DepartsAt n at step) now at.departs, more, refl)

  pub hops_on_time : (v t : ℕ) (hops : List Hop) → ArePlainHops n table v t hops
      → AreOnTime n v t (steps_of n table v t hops) (node_after v hops) (arrival_after t hops) (letters_of n table v hops)
  hops_on_time v t [] hop = (refl, refl, refl)
  hops_on_time v t (hop ∷ hops) (has, arrives, to, rest) =
      let a = plain_arc n table v hop.arc in
      let step = step_at n network table keeps of v t hop.at a (out_of n network table keeps v hop.arc has.arc) arrives in
      let first = subst (λ x. IsStep n v t step.0 x hop.at (graph_arc n table v a).letter) (sym to) step.2 in
      rw step.1 (behind v t step.0 hop.to hop.at (graph_arc n table v a).letter (steps_of n table hop.to hop.at hops) (node_after hop.to hops) (arrival_after hop.at hops)
      (letters_of n table hop.to hops) (leaves v t step.0 hop.to hop.at (graph_arc n table v a).letter first) (hops_on_time hop.to hop.at hops rest))

  -- what is on time is real
  pub are_real : (v t : ℕ) (steps : List Step) (w u : ℕ) (letters : List ℕ) → AreOnTime n v t steps w u letters → AreSteps n v t steps w u letters
  are_real v t [] w u letters are = are
  are_real v t (step ∷ steps) w u letters (v1, t1, letter, rest, is, departs, more, e) = (v1, t1, letter, rest, is, are_real v1 t1 steps w u rest more, e)

  pub have_arcs : (v t : ℕ) (hops : List Hop) → ArePlainHops n table v t hops → HaveArcs n table v hops
  have_arcs v t [] hop = tt
  have_arcs v t (hop ∷ hops) (has, arrives, to, rest) = (has, have_arcs hop.to hop.at hops rest)

  nothing : All IsSoon []
  nothing = λ k d h. absurd (omega arith)

  one : (step : Step) → IsSoon step → All IsSoon (step ∷ [])
  one step soon = All-cons IsSoon step [] soon nothing

  -- a step and the wait before it
  both_soon : (t : ℕ) (step : Step) → IsSoon step → leaves_at table t step < 2 ^ 41 → All IsSoon (with_wait table t (Some step))
  both_soon t step soon leaves = on_test (nat_lt t (leaves_at table t step))
    where
      on_test : (b : Bool) → All IsSoon (cond b (Wait (leaves_at table t step) ∷ step ∷ []) (step ∷ []))
      on_test true = All-cons IsSoon (Wait (leaves_at table t step)) (step ∷ []) leaves (one step soon)
      on_test false = one step soon

  -- a step that leaves at once
  at_once : (t : ℕ) (step : Step) → IsSoon step → leaves_at table t step ≡ t → All IsSoon (with_wait table t (Some step))
  at_once t step soon now = on_test (nat_lt t (leaves_at table t step)) refl
    where
      on_test : (b : Bool) → nat_lt t (leaves_at table t step) ≡ b → All IsSoon (cond b (Wait (leaves_at table t step) ∷ step ∷ []) (step ∷ []))
      on_test true e = let later = ltb-true t (leaves_at table t step) e in absurd (omega (arith, later, now))
      on_test false e = one step soon

  pub arc_soon : (v t : ℕ) (a : PlainArc) → IsOut n table v a → All IsSoon (with_wait table t (step_of table t a))
  arc_soon v t (RoadArc a) out = at_once t (Road a.to) tt refl
  arc_soon v t (LinkArc a) out = at_once t (Link a.to) tt refl
  arc_soon v t StandArc out = at_once t Stand tt refl
  arc_soon v t (RideArc ride) out = on_run (run_at table t ride) refl
    where
      on_run : (o : Option Instance) → run_at table t ride ≡ o
          → All IsSoon (with_wait table t (option_map (λ (run : Instance). TakeRide run.trip run.day ride.board ride.alight) o))
      on_run None e = nothing
      on_run (Some run) e =
          let is = out.ride_at in
          let (is_in, in_time) = takes table keeps out.stop ride is t run e in
          let within = alights_within table keeps out.stop ride is run is_in in
          both_soon t (TakeRide run.trip run.day ride.board ride.alight) tt (departs_small table keeps ride.pattern ride.board run is_in (omega (arith, within, is.later)))

  pub steps_soon : (v t : ℕ) (hops : List Hop) → HaveArcs n table v hops → All IsSoon (steps_of n table v t hops)
  steps_soon v t [] have = nothing
  steps_soon v t (hop ∷ hops) (has, rest) =
      All-append IsSoon (with_wait table t (step_of table t (plain_arc n table v hop.arc))) (steps_of n table hop.to hop.at hops)
      (arc_soon v t (plain_arc n table v hop.arc) (out_of n network table keeps v hop.arc has.arc)) (steps_soon hop.to hop.at hops rest)

-- the hops of an answer of a search over a graph
module _ (g : GraphMeaning) (l : LabelsMeaning) where
  pub hops_in : (hops : List Hop) (v q t v2 q2 t2 : ℕ) → AreWalkHops g l v q t hops v2 q2 t2 → AreHopsIn g v t hops
  hops_in [] v q t v2 q2 t2 are = tt
  hops_in (hop ∷ hops) v q t v2 q2 t2 (is, rest) = (is.has, is.arrives, is.to, hops_in hops hop.to hop.state hop.at v2 q2 t2 rest)

  pub hops_end_in : (hops : List Hop) (v q t v2 q2 t2 : ℕ) → AreWalkHops g l v q t hops v2 q2 t2 → (node_after v hops ≡ v2) × (arrival_after t hops ≡ t2)
  hops_end_in [] v q t v2 q2 t2 (at, state, now) = (sym at, sym now)
  hops_end_in (hop ∷ hops) v q t v2 q2 t2 (is, rest) = hops_end_in hops hop.to hop.state hop.at v2 q2 t2 rest

  pub hops_letters_in : (hops : List Hop) (v q t v2 q2 t2 : ℕ) → AreWalkHops g l v q t hops v2 q2 t2 → letters_in g v hops ≡ word_from g v (arcs_of hops)
  hops_letters_in [] v q t v2 q2 t2 are = refl
  hops_letters_in (hop ∷ hops) v q t v2 q2 t2 (is, rest) =
      ap (λ (x : List ℕ). option_to_list (g.arc_at v hop.arc).letter ++ x) (hops_letters_in hops hop.to hop.state hop.at v2 q2 t2 rest ∙ ap (λ w. word_from g w (arcs_of hops)) is.to)

-- over the graph of a network
pub plain_letters : (n : NetworkLists) (table : TableLists) (hops : List Hop) (v : ℕ) → letters_of n table v hops ≡ letters_in (plain_meaning n table) v hops
plain_letters n table [] v = refl
plain_letters n table (hop ∷ hops) v = ap (λ (x : List ℕ). option_to_list (graph_arc n table v (plain_arc n table v hop.arc)).letter ++ x) (plain_letters n table hops hop.to)

module _ (n : NetworkLists) (table : TableLists) (l : LabelsMeaning) where
  pub plain_hops : (hops : List Hop) (v q t v2 q2 t2 : ℕ) → AreWalkHops (plain_meaning n table) l v q t hops v2 q2 t2 → ArePlainHops n table v t hops
  plain_hops = hops_in (plain_meaning n table) l

  pub hops_end : (hops : List Hop) (v q t v2 q2 t2 : ℕ) → AreWalkHops (plain_meaning n table) l v q t hops v2 q2 t2 → (node_after v hops ≡ v2) × (arrival_after t hops ≡ t2)
  hops_end = hops_end_in (plain_meaning n table) l

  pub hops_letters : (hops : List Hop) (v q t v2 q2 t2 : ℕ) → AreWalkHops (plain_meaning n table) l v q t hops v2 q2 t2
      → letters_of n table v hops ≡ word_from (plain_meaning n table) v (arcs_of hops)
  hops_letters hops v q t v2 q2 t2 are = plain_letters n table hops v ∙ hops_letters_in (plain_meaning n table) l hops v q t v2 q2 t2 are
