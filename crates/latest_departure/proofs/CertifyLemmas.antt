-- What the search for a deadline finds can be certified.
use Rattle.plan_base.proofs.Common.{◌≡◌, ℕ, ◌-◌, ◌≤◌, List, Option, Some, None, refl, subst, arith}
use Rattle.mode_expression.specs.{IsUsable}
use Rattle.mode_expression.proofs.ParseLemmas.{expressions_are_usable}
use Rattle.search_laws.specs.{ArrivesAt}
use Rattle.product_search.specs.{Label, IsClosed, IsArrival}
use Rattle.automaton.specs.{collapsed_lawful}
use Rattle.mode_network.specs.{NetworkLists.NetworkLists, Route}
use Rattle.mode_network.proofs.RuleLemmas.{some_is}
use Rattle.journey.specs.{Asked, Asks, KeepsRules}
use Rattle.latest_departure.specs.{deadline, first_moment, IsInTime, IsLate, AreLateLabels, span, Mirroring, graph_of, labels_of, LateHolds, late_bound, IsValidLate}
use Rattle.latest_departure.proofs.{ClosedLemmas.closed_before, ClosedLemmas.search_closed, DeadlineLemmas.deadline_is_late, LateLemmas.arrives, LateLemmas.in_time_of, MirrorWalks.steps_rise, ValidLemmas.asked_small, ValidLemmas.reads_of, ValidLemmas.over_lawful, ValidLemmas.over_journeys, ValidLemmas.over_walks}

module _ (n : NetworkLists) (rules : KeepsRules n) (line : List ℕ) (q : Asked) (asks : Asks n line q) (m : Mirroring n q) where
  usable : IsUsable q.form
  usable = expressions_are_usable asks.shape.expr q.form asks.expression

  late : first_moment n ≤ deadline q
  late = deadline_is_late n rules.days rules.order line q.from q.to q.depart q.form asks

  -- within the span there is a moment at which a journey that is in time starts
  starts_then : (moment : ℕ) → IsArrival (graph_of n q m) (labels_of n q m) m.starts m.targets 0 (Some (span n q)) (Some moment)
      → (k : Route) × IsInTime n q k × (deadline q - moment ≤ k.at)
  starts_then moment least =
      let small = asked_small n rules line q asks in
      let there = in_time_of n q (graph_of n q m) (labels_of n q m) m.starts m.targets (reads_of q usable m.reversed m.reads)
      (over_walks n rules.network q small m) (over_journeys n rules.network q small m) m.ends.destination m.ends.origin late
      (steps_rise n rules.network m.table m.keeps m.of) moment least.0.reached least.1 in
      let at = there.2 in
      (there.0, there.1, omega arith)

  -- and a journey that is in time is such a moment
  is_moment : (k : Route) → IsInTime n q k → (moment : Option ℕ) → IsArrival (graph_of n q m) (labels_of n q m) m.starts m.targets 0 (Some (span n q)) moment
      → (a : ℕ) × (moment ≡ Some a) × (a ≤ deadline q - k.at) × (k.at ≤ deadline q)
  is_moment k in_time moment first =
      let small = asked_small n rules line q asks in
      let is = arrives n q (graph_of n q m) (labels_of n q m) m.starts m.targets (reads_of q usable m.reversed m.reads)
      (over_journeys n rules.network q small m) m.ends.destination m.ends.origin (steps_rise n rules.network m.table m.keeps m.of) k in_time in
      on_moment moment first is.0 is.1
    where
      on_moment : (o : Option ℕ) → IsArrival (graph_of n q m) (labels_of n q m) m.starts m.targets 0 (Some (span n q)) o
          → ArrivesAt (graph_of n q m) (labels_of n q m) m.starts m.targets 0 (deadline q - k.at) → k.at ≤ deadline q
          → (a : ℕ) × (o ≡ Some a) × (a ≤ deadline q - k.at) × (k.at ≤ deadline q)
      on_moment None none there le = let early = in_time.not_before in absurd (none (deadline q - k.at) (omega arith) there)
      on_moment (Some a) least there le = (a, refl, least.0.least (deadline q - k.at) there, le)

  -- the moment that is found is that of the latest departure
  bound_is : (result : Option Route) → IsLate n q result → (moment : Option ℕ)
      → IsArrival (graph_of n q m) (labels_of n q m) m.starts m.targets 0 (Some (span n q)) moment → closed_before (span n q) moment ≡ late_bound n q result
  bound_is None none None first = refl
  bound_is None none (Some moment) least = let there = starts_then moment least in absurd (none there.0 there.1)
  bound_is (Some j) is None first = let at = is_moment j is.0.best.latest.in_time None first in absurd (let e = at.1 in cc)
  bound_is (Some j) is (Some moment) least =
      let there = starts_then moment least in
      let no_later = is.0.best.latest.latest there.0 there.1 in
      let from = there.2 in
      let at = is_moment j is.0.best.latest.in_time (Some moment) least in
      let same = some_is at.1 in
      let low = at.2 in
      let le = at.3 in
      omega arith

  holds : (result : Option Route) → IsLate n q result → LateHolds n q result
  holds None none = tt
  holds (Some j) is = is.0.best.latest.in_time

pub late_is_valid : (n : NetworkLists) → KeepsRules n → (line : List ℕ) (q : Asked) → Asks n line q → (result : Option Route) → IsLate n q result → (labels : List Label)
    → AreLateLabels n q labels → IsValidLate n (record { line = line; result = result; labels = labels })
late_is_valid n rules line q asks result is labels are =
    let m = are.over in
    let small = asked_small n rules line q asks in
    let closed = search_closed (graph_of n q m) (over_lawful n rules.network q small m) (labels_of n q m) (collapsed_lawful m.reversed m.reads.turned_lawful m.reads.fits)
    m.starts m.targets m.ends.start_nodes 0 (span n q) are.arrival labels are.first are.least in
    record {
      setting = record { asked = q; asks = asks; over = m };
      holds = holds n rules line q asks m result is;
      closed = subst (λ b. IsClosed (graph_of n q m) (labels_of n q m) m.starts m.targets 0 (Some b) labels) (bound_is n rules line q asks m result is are.arrival are.first) closed;
    }
