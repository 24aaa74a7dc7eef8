-- Where no walk by least times is soon enough, no journey with a ride takes less.
use Rattle.plan_base.proofs.Common.{◌≡◌, ℕ, ◌+◌, ◌-◌, ◌<◌, ◌≤◌, ◌⊎◌, inl, inr, List, [], Option, Some, None, false, sym, subst, arith, is_some, All-nil}
use Rattle.search_laws.specs.{LabelsMeaning, Accepts, ArrivesAt}
use Rattle.product_search.specs.{IsArrival}
use Rattle.timetable_arcs.specs.{TableLists, IsTable}
use Rattle.mode_network.specs.{NetworkLists.NetworkLists, IsNetwork, IsTimetableOf}
use Rattle.plain_graph.proofs.Same.{journeys_are_walks}
use Rattle.journey.specs.{Asked, AreTheCopies}
use Rattle.departures.specs.{FastestCall, Pair, IsPair, IsListed, IsRow, AreRows, NoneIsFaster, least_meaning, inside.ReadsRides, inside.NoneTakesLess}
use Rattle.departures.proofs.{FirstLemmas.arrives, LeastWalkLemmas.walk_as_fast, OrderLemmas.not_before}
use Rattle.latest_departure.proofs.OrderLemmas.{le_or_above}

module _ (n : NetworkLists) (network : IsNetwork n) (table : TableLists) (keeps : IsTable table) (of : IsTimetableOf n table) (runs : List (List FastestCall))
    (fastest : NoneIsFaster table runs) (q : Asked) (l : LabelsMeaning) (origins destinations : List ℕ) (reads : ReadsRides q.form l) (from : AreTheCopies n q.from origins)
    (to : AreTheCopies n q.to destinations) where
  -- a pair is a walk by least times from a moment on, which takes no longer
  record ArrivesAsFast (p : Pair) (s : ℕ) : Type 0 where
    at : ℕ
    arrives : ArrivesAt (least_meaning n table runs) l origins destinations s at
    no_longer : at + p.depart ≤ p.arrive + s

  as_fast : (p : Pair) → IsPair n q p → (s : ℕ) → ArrivesAsFast p s
  as_fast p pair s =
      let walk = arrives n network table q l origins destinations reads (journeys_are_walks n network table keeps of) from to p.depart (not_before n q p pair) p pair (omega arith) in
      let fast = walk_as_fast n network table keeps of runs fastest walk.start p.depart walk.steps walk.end p.arrive s walk.walk in
      record {
        at = fast.at;
        arrives = record {
          start = walk.start;
          end = walk.end;
          steps = fast.steps;
          starts_there = walk.starts_there;
          ends_there = walk.ends_there;
          walk = fast.leads;
          word = subst (Accepts l) (sym fast.word) walk.word;
        };
        no_longer = fast.no_longer;
      }

  none_takes_less : (c last : ℕ) → 0 < c → last ≡ q.depart + (c - 1) → IsArrival (least_meaning n table runs) l origins destinations q.depart (Some last) None → NoneTakesLess n q c
  none_takes_less c last some is none p pair = on_order (le_or_above (p.depart + c) p.arrive)
    where
      on_order : (p.depart + c ≤ p.arrive) ⊎ (p.arrive < p.depart + c) → p.depart + c ≤ p.arrive
      on_order (inl long) = long
      on_order (inr short) =
          let fast = as_fast p pair q.depart in
          let le = fast.no_longer in
          absurd (none fast.at (omega arith) fast.arrives)

  pub none_found : (c last : ℕ) (arrival : Option ℕ) → 0 < c → last ≡ q.depart + (c - 1) → IsArrival (least_meaning n table runs) l origins destinations q.depart (Some last) arrival
      → is_some arrival ≡ false → NoneTakesLess n q c
  none_found c last None some is none off = none_takes_less c last some is none
  none_found c last (Some a) some is found off = absurd cc

-- so none is worth listing, if one can do without a ride in that time
pub none_worth : (n : NetworkLists) (q : Asked) (c window : ℕ) → NoneTakesLess n q c → AreRows n q (Some c) window []
none_worth n q c window none = record {
  departures = record {
    rising = λ i j d less within. absurd (omega arith);
    listed = All-nil (IsListed n q (Some c) window);
    whole = λ p is. (let long = none p is.undominated.pair in let short = is.shorter in absurd (omega arith));
  };
  right = All-nil (IsRow n q);
}
