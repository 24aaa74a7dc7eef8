-- The network in which nobody waits for a ride is a lawful graph.
use Rattle.plan_base.proofs.Common.{◌≡◌, ℕ, ◌+◌, ◌^◌, ◌<◌, ◌≤◌, ◌⊎◌, inl, inr, ◌∙◌, List, Some, None, refl, sym, ap, arith, slice_index_or}
use Rattle.search_laws.specs.{IsLawfulGraph, HasArc}
use Rattle.timetable_arcs.specs.{Ride as RideCalls, TableLists, runs_of, no_run, IsRideAt, IsTable}
use Rattle.timetable_arcs.proofs.TableLemmas.{first_is_in, arrives_small}
use Rattle.mode_network.specs.{NetworkLists.NetworkLists, IsNetwork, IsTimetableOf}
use Rattle.mode_network.proofs.RuleLemmas.{some_is}
use Rattle.plain_graph.specs.{PlainArc, Road, Link, Stand, Ride, plain_arc, plain_meaning, arrival, alights_within, plain_lawful, inside.IsOut, inside.out_of}
use Rattle.departures.specs.{FastestCall, least_ms, NoneIsFaster, least_arrival, least_meaning}

-- an arc arrives as in the network's own graph, or is a ride
record IsFastRide (t : TableLists) (a : PlainArc) : Type 0 where
  ride : RideCalls
  stop : ℕ
  is : a ≡ Ride ride
  at : IsRideAt t stop ride

abbrev TakesAsLong : TableLists → List (List FastestCall) → PlainArc → Type 0
TakesAsLong t runs a = (s : ℕ) → least_arrival runs s a ≡ arrival t s a

module _ (n : NetworkLists) (network : IsNetwork n) (t : TableLists) (table : IsTable t) (of : IsTimetableOf n t) (runs : List (List FastestCall)) (none : NoneIsFaster t runs) where
  -- a ride is over soon
  least_small : (stop : ℕ) (ride : RideCalls) → IsRideAt t stop ride → least_ms runs ride < 2 ^ 41
  least_small stop ride is =
      let run = slice_index_or (runs_of t ride.pattern) 0 no_run in
      let is_in = first_is_in t table ride.pattern is.pattern in
      let within = alights_within t table stop ride is run is_in in
      let small = arrives_small t table ride.pattern ride.alight run is_in within in
      let fast = none run ride is_in is.later within in
      omega (arith, small, fast)

  as_long_or_ride : (v : ℕ) (a : PlainArc) → IsOut n t v a → TakesAsLong t runs a ⊎ IsFastRide t a
  as_long_or_ride v (Road arc) out = inl (λ s. refl)
  as_long_or_ride v (Link link) out = inl (λ s. refl)
  as_long_or_ride v Stand out = inl (λ s. refl)
  as_long_or_ride v (Ride ride) out = inr (record { ride = ride; stop = out.stop; is = refl; at = out.ride_at })

  has_plain : (v i : ℕ) → HasArc (least_meaning n t runs) v i → HasArc (plain_meaning n t) v i
  has_plain v i has = record { node = has.node; arc = has.arc }

  arc_kind : (v i : ℕ) → HasArc (plain_meaning n t) v i → TakesAsLong t runs (plain_arc n t v i) ⊎ IsFastRide t (plain_arc n t v i)
  arc_kind v i has = as_long_or_ride v (plain_arc n t v i) (out_of n network t table v i has.arc)

  plain : IsLawfulGraph (plain_meaning n t)
  plain = plain_lawful n network t table of

  ride_arrives : (a : PlainArc) (fast : IsFastRide t a) (s u : ℕ) → least_arrival runs s a ≡ Some u → s + least_ms runs fast.ride ≡ u
  ride_arrives a fast s u e = some_is (sym (ap (least_arrival runs s) fast.is) ∙ e)

  soon : (v i s u : ℕ) → HasArc (plain_meaning n t) v i → least_arrival runs s (plain_arc n t v i) ≡ Some u → (s ≤ u) × (u ≤ s + 2 ^ 57)
  soon v i s u has e = by_kind (arc_kind v i has)
    where
      by_kind : TakesAsLong t runs (plain_arc n t v i) ⊎ IsFastRide t (plain_arc n t v i) → (s ≤ u) × (u ≤ s + 2 ^ 57)
      by_kind (inl same) = (plain.not_before v i s u has (sym (same s) ∙ e), plain.not_late v i s u has (sym (same s) ∙ e))
      by_kind (inr fast) =
          let is = ride_arrives (plain_arc n t v i) fast s u e in
          let small = least_small fast.stop fast.ride fast.at in
          (omega (arith, is), omega (arith, is, small))

  later : (v i s r a b : ℕ) → HasArc (plain_meaning n t) v i → s ≤ r → least_arrival runs s (plain_arc n t v i) ≡ Some a → least_arrival runs r (plain_arc n t v i) ≡ Some b → a ≤ b
  later v i s r a b has le e f = by_kind (arc_kind v i has)
    where
      by_kind : TakesAsLong t runs (plain_arc n t v i) ⊎ IsFastRide t (plain_arc n t v i) → a ≤ b
      by_kind (inl same) = plain.rises v i s r a b has le (sym (same s) ∙ e) (sym (same r) ∙ f)
      by_kind (inr fast) = omega (arith, le, ride_arrives (plain_arc n t v i) fast s a e, ride_arrives (plain_arc n t v i) fast r b f)

  always : (a : PlainArc) (s : ℕ) → least_arrival runs s a ≡ None → ⊥
  always (Road arc) s e = cc
  always (Link link) s e = cc
  always Stand s e = cc
  always (Ride ride) s e = cc

  pub least_lawful : IsLawfulGraph (least_meaning n t runs)
  least_lawful = record {
    few_nodes = plain.few_nodes;
    to_in_range = λ v i has. plain.to_in_range v i (has_plain v i has);
    letter_in_range = λ v i has. plain.letter_in_range v i (has_plain v i has);
    not_before = λ v i s u has e. (soon v i s u (has_plain v i has) e).0;
    not_late = λ v i s u has e. (soon v i s u (has_plain v i has) e).1;
    rises = λ v i s r a b has le e f. later v i s r a b (has_plain v i has) le e f;
    stays_none = λ v i s r has le e. absurd (always (plain_arc n t v i) s e);
  }
