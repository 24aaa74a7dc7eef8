-- For each walk of a network there is one by its least times that takes no longer.
use Rattle.plan_base.proofs.Common.{◌≡◌, ℕ, ◌+◌, ◌≤◌, ◌++◌, List, [], ◌∷◌, Option, Some, None, refl, ap, arith, option_map, option_to_list}
use Rattle.search_laws.specs.{WalkStep, wait, arc, IsWalk, word_from}
use Rattle.timetable_arcs.specs.{Instance, Ride as RideCalls, TableLists, arrives, IsRideAt, IsTable}
use Rattle.mode_network.specs.{NetworkLists.NetworkLists, IsNetwork, IsTimetableOf}
use Rattle.mode_network.proofs.RuleLemmas.{some_is}
use Rattle.plain_graph.specs.{PlainArc, Road, Link, Stand, Ride, plain_arc, plain_meaning, graph_arc, arrival, run_at, alights_within, takes, inside.IsOut, inside.out_of}
use Rattle.departures.specs.{FastestCall, least_ms, NoneIsFaster, least_arrival, inside.HasWalkAsFast}

module _ (n : NetworkLists) (network : IsNetwork n) (t : TableLists) (table : IsTable t) (of : IsTimetableOf n t) (runs : List (List FastestCall)) (none : NoneIsFaster t runs) where
  -- an arc that is taken at s arrives no later than if it took as long as from time to u
  record ArrivesAsFast (a : PlainArc) (time u s : ℕ) : Type 0 where
    at : ℕ
    arrives : least_arrival runs s a ≡ Some at
    no_longer : at + time ≤ u + s

  ride_as_fast : (stop time u s : ℕ) (ride : RideCalls) → IsRideAt t stop ride → (run : Option Instance) → run_at t time ride ≡ run
      → option_map (λ r. arrives t r ride.alight) run ≡ Some u → ArrivesAsFast (Ride ride) time u s
  ride_as_fast stop time u s ride is None e f = cc
  ride_as_fast stop time u s ride is (Some run) e f =
      let (is_in, in_time) = takes t table stop ride is time run e in
      let fast = none run ride is_in is.later (alights_within t table stop ride is run is_in) in
      let same = some_is f in
      record { at = s + least_ms runs ride; arrives = refl; no_longer = omega (arith, in_time, fast, same) }

  out_as_fast : (v time u s : ℕ) (a : PlainArc) → IsOut n t v a → arrival t time a ≡ Some u → ArrivesAsFast a time u s
  out_as_fast v time u s (Road road) out e = let same = some_is e in record { at = s + road.ms; arrives = refl; no_longer = omega (arith, same) }
  out_as_fast v time u s (Link link) out e = let same = some_is e in record { at = s + link.ms; arrives = refl; no_longer = omega (arith, same) }
  out_as_fast v time u s Stand out e = let same = some_is e in record { at = s; arrives = refl; no_longer = omega (arith, same) }
  out_as_fast v time u s (Ride ride) out e = ride_as_fast out.stop time u s ride out.ride_at (run_at t time ride) refl e

  pub walk_as_fast : (v time : ℕ) (walk : List WalkStep) (w u s : ℕ) → IsWalk (plain_meaning n t) v time walk w u
      → HasWalkAsFast n t runs v w (word_from (plain_meaning n t) v walk) time u s
  walk_as_fast v time [] w u s (there, now) = record { steps = []; at = s; leads = (there, refl); word = refl; no_longer = omega (arith, now) }
  walk_as_fast v time (wait r ∷ walk) w u s (le, more) =
      let rest = walk_as_fast v r walk w u s more in
      let no_longer = rest.no_longer in
      record { steps = rest.steps; at = rest.at; leads = rest.leads; word = rest.word; no_longer = omega (arith, le) }
  walk_as_fast v time (arc i ∷ walk) w u s (x, has, arrives, more) =
      let a = plain_arc n t v i in
      let fast = out_as_fast v time x s a (out_of n network t table v i has.arc) arrives in
      let rest = walk_as_fast (graph_arc n t v a).to x walk w u fast.at more in
      let first = fast.no_longer in
      let then = rest.no_longer in
      record {
        steps = arc i ∷ rest.steps;
        at = rest.at;
        leads = (fast.at, record { node = has.node; arc = has.arc }, fast.arrives, rest.leads);
        word = ap (λ (letters : List ℕ). option_to_list (graph_arc n t v a).letter ++ letters) rest.word;
        no_longer = omega (arith, first, then);
      }
