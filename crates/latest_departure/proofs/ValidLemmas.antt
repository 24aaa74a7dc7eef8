-- A late certificate that is valid proves what it claims.
use Rattle.plan_base.proofs.Common.{ℕ, ◌-◌, ◌≤◌, ◌<◌, ◌^◌, List, Option, Some, None, arith}
use Rattle.search_laws.specs.{GraphMeaning, IsLawfulGraph, LabelsMeaning}
use Rattle.product_search.specs.{NoneArrivesBefore}
use Rattle.product_search.proofs.BoundLemmas.{bound}
use Rattle.automaton.specs.{collapsed}
use Rattle.automaton.proofs.{CollapsedLemmas.accepts_collapsed, AcceptLemmas.positions_accept}
use Rattle.mode_expression.specs.{IsUsable}
use Rattle.mode_expression.proofs.ParseLemmas.{expressions_are_usable}
use Rattle.mode_network.specs.{NetworkLists.NetworkLists, IsNetwork, Step, Route, AreSteps}
use Rattle.journey.specs.{KeepsRules, Asked, Asks, AreTheCopies}
use Rattle.latest_departure.specs.{deadline, IsLateResult, ReadsFromEnds, Mirroring, graph_of, labels_of, JourneysAreMirrors, MirrorsAreJourneys, LateHolds, late_bound, ValidLateProves}
use Rattle.latest_departure.proofs.{DeadlineLemmas.deadline_is_small, LateLemmas.IsMirrorOf, LateLemmas.mirror_of, LateLemmas.arrives, MirrorLaws.mirror_lawful, MirrorWalks.steps_rise, MirrorWalks.mirrors_are_journeys, MirrorWalks.journeys_are_mirrors, ReversedLemmas.accepts_reversed}

module _ (n : NetworkLists) (q : Asked) (g : GraphMeaning) (l : LabelsMeaning) (starts targets : List ℕ) (reads : IsMirrorOf q.form l)
    (journeys : JourneysAreMirrors n g (deadline q)) (to : AreTheCopies n q.to starts) (from : AreTheCopies n q.from targets)
    (rises : (v t : ℕ) (steps : List Step) (w u : ℕ) (letters : List ℕ) → AreSteps n v t steps w u letters → t ≤ u) where
  late_result : (result : Option Route) → LateHolds n q result → NoneArrivesBefore g l starts targets 0 (Some (late_bound n q result)) → IsLateResult n q result
  late_result None holds none = λ k in_time. (
      let is = arrives n q g l starts targets reads journeys to from rises k in_time in
      let least = none 0 (deadline q - k.at) (omega arith) is.0 in
      let early = is.1 in
      let first = in_time.not_before in
      omega arith)
  late_result (Some claimed) holds none = record {
    in_time = holds;
    latest = λ k in_time.
        let is = arrives n q g l starts targets reads journeys to from rises k in_time in
        let least = none 0 (deadline q - k.at) (omega arith) is.0 in
        let early = is.1 in
        let own = (arrives n q g l starts targets reads journeys to from rises claimed holds).1 in
        omega arith;
  }

-- a deadline is not far off
pub asked_small : (n : NetworkLists) → KeepsRules n → (line : List ℕ) (q : Asked) → Asks n line q → deadline q < 2 ^ 57
asked_small n rules line q asks = let small = deadline_is_small n rules.days rules.order line q.from q.to q.depart q.form asks in omega arith

-- what the automaton of a search reads, from their ends
pub reads_of : (q : Asked) → IsUsable q.form → (reversed : LabelsMeaning) → ReadsFromEnds q reversed → IsMirrorOf q.form (collapsed reversed)
reads_of q usable reversed reads =
    let inner = positions_accept q.form usable reads.automaton reads.lawful reads.positions in
    let turns = accepts_reversed reads.automaton reversed reads.lawful reads.turned_lawful reads.turned in
    mirror_of q.form reads.automaton reversed inner turns (accepts_collapsed reversed reads.turned_lawful)

module _ (n : NetworkLists) (network : IsNetwork n) (q : Asked) (small : deadline q < 2 ^ 57) (m : Mirroring n q) where
  pub over_lawful : IsLawfulGraph (graph_of n q m)
  over_lawful = mirror_lawful n network m.table m.keeps m.of m.rows m.sources (deadline q) small

  pub over_journeys : JourneysAreMirrors n (graph_of n q m) (deadline q)
  over_journeys = journeys_are_mirrors n network m.table m.keeps m.of m.rows m.sources (deadline q) over_lawful

  pub over_walks : MirrorsAreJourneys n (graph_of n q m) (deadline q)
  over_walks = mirrors_are_journeys n network m.table m.keeps m.of m.rows m.sources (deadline q) over_lawful

pub valid_late_proves : ValidLateProves
valid_late_proves n rules c valid =
    let s = valid.setting in
    let q = s.asked in
    let m = s.over in
    let network = rules.network in
    let small = asked_small n rules c.line q s.asks in
    let usable = expressions_are_usable s.asks.shape.expr q.form s.asks.expression in
    let none = bound (graph_of n q m) (over_lawful n network q small m) (labels_of n q m) m.starts m.targets 0 (Some (late_bound n q c.result)) c.labels valid.closed in
    record {
      asked = q;
      asks = s.asks;
      right = late_result n q (graph_of n q m) (labels_of n q m) m.starts m.targets (reads_of q usable m.reversed m.reads) (over_journeys n network q small m)
          m.ends.destination m.ends.origin (steps_rise n network m.table m.keeps m.of) c.result valid.holds none;
    }
