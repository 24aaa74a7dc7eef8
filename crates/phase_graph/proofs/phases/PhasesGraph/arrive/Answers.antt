use Rattle.plan_base.proofs.Common.{◌∙◌, ap}
use Rattle.phase_graph.specs.{marks_in, node_of, phase_arrival}
use Rattle.phase_graph.proofs.phases.PhasesGraph.arrive.Goals as goal

pub arrive-requires-clause-arc : goal.arrive-requires-clause-arc
arrive-requires-clause-arc c = rw c.split-v.ensures c.in-Other.ensures.fits

pub returns-in-Other : goal.returns-in-Other
returns-in-Other c =
    let self = c.args.self.now in
    (rw c.split-v.ensures at c.arrive.ensures) ∙ ap (phase_arrival self.plain.network.now self.plain.timetable.now self.hierarchy.now (marks_in self.falls.first.items) (node_of c.args.p) c.args.t) c.in-Other.ensures.value
