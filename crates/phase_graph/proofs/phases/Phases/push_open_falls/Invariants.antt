use Rattle.plan_base.proofs.Common.{◌++◌, map}
use Rattle.phase_graph.specs.{marks_in, entries_at, first_entry, node_of, inside.fall_way, inside.falls_from}
use Rattle.phase_graph.proofs.FallLemmas.{AreAppended}
use Rattle.phase_graph.proofs.phases.Phases.push_open_falls.Given as goal

abbrev pub invariant-loop-number : goal.invariant-loop-number
invariant-loop-number l =
    let h = l.self.hierarchy.now in
    let first = first_entry h (node_of l.visit.node) in
    let count = entries_at h (node_of l.visit.node) in
    let as_way = fall_way l.letter l.visit.at l.first l.ups in
    AreAppended l.self.falls.all.items as_way first count (l.initial.ways.items ++ map as_way (falls_from h (marks_in l.self.falls.first.items) first count)) l.ways.items l.number

abbrev pub decreases-loop-number : goal.decreases-loop-number
decreases-loop-number l = l.number
