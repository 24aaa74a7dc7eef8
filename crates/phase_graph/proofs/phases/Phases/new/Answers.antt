use Rattle.plan_base.proofs.Common.{Bool, List, sym, subst}
use Rattle.search_laws.specs.{IsLawfulGraph}
use Rattle.mode_network.specs.NetworkLists.{NetworkLists}
use Rattle.hierarchy.specs.{AreBelow, IsSound}
use Rattle.phase_graph.specs.{AreMarksFor, marks_in, phase_meaning, inside.AreMarked}
use Rattle.phase_graph.proofs.{GraphLemmas.lawful, GraphLemmas.below_nodes, GraphMoves.is_phase_graph, MarkLemmas.are_listed, WalkedLemmas.journeys_have_walks, WalkedLemmas.walks_have_journeys}
use Rattle.phase_graph.proofs.phases.Phases.new.Goals as goal

pub mark_nodes-requires : goal.mark_nodes-requires
mark_nodes-requires c = record {
  below = subst (AreBelow c.args.hierarchy.now) (sym c.nodes-count.ensures) (below_nodes c.args.network.now c.args.hierarchy.now c.known.ensures c.requires);
  clear = c.in_ok-numbers.ensures;
}

pub invariant_of-result : goal.invariant_of-result
invariant_of-result c =
    let table = c.new-plain.result.timetable.now in
    let marks = marks_in c.in_ok-falls.falls.first.items in
    let laws = lawful c.args.network.now c.args.hierarchy.now c.known.ensures c.known-2.ensures c.requires table c.new-plain.ensures.keeps c.new-plain.ensures.of marks in
    record {
      listed = are_listed c.args.hierarchy.now c.in_ok-falls.falls.first.items c.in_ok-marks.marks.nodes.items (subst (λ (ms : List Bool). AreMarked c.args.hierarchy.now ms c.in_ok-marks.marks.nodes.items) (sym c.in_ok-falls.ensures.marks) c.in_ok-marks.ensures.nodes);
      chained = c.in_ok-falls.ensures.falls;
      sound = ∣ subst (λ (n : NetworkLists). IsSound n c.args.hierarchy.now) (sym c.new-plain.ensures.network) c.requires ∣₁;
      lawful = subst (λ (n : NetworkLists). IsLawfulGraph (phase_meaning n table c.args.hierarchy.now marks)) (sym c.new-plain.ensures.network) laws;
    }

pub returns-clause-marks : goal.returns-clause-marks
returns-clause-marks c = subst (λ (ms : List Bool). AreMarksFor c.args.hierarchy.now c.args.targets.now ms) (sym c.in_ok-falls.ensures.marks) c.in_ok-marks.ensures.marks

pub returns-clause-is : goal.returns-clause-is
returns-clause-is c =
    is_phase_graph c.args.network.now c.args.hierarchy.now c.args.targets.now c.known.ensures c.known-2.ensures c.requires c.new-plain.result.timetable.now c.new-plain.ensures.keeps
    c.new-plain.ensures.of (marks_in c.in_ok-falls.falls.first.items) (returns-clause-marks c)

pub returns-clause-journeys : goal.returns-clause-journeys
returns-clause-journeys c = journeys_have_walks c.args.network.now c.args.hierarchy.now c.args.targets.now c.known.ensures c.requires _ (returns-clause-is c)

pub returns-clause-walks : goal.returns-clause-walks
returns-clause-walks c = walks_have_journeys c.args.network.now c.args.hierarchy.now c.args.targets.now c.known.ensures c.requires _ (returns-clause-is c)
