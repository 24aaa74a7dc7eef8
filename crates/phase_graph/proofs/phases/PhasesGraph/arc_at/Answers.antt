use Rattle.plan_base.proofs.Common.{◌∙◌, ap}
use Rattle.phase_graph.specs.{arc_of, node_of, is_down}
use Rattle.phase_graph.proofs.phases.PhasesGraph.arc_at.Goals as goal

pub other_arc-requires-clause-arc : goal.other_arc-requires-clause-arc
other_arc-requires-clause-arc c = rw c.split-v.ensures c.in-Other.ensures.fits

pub returns-in-Other : goal.returns-in-Other
returns-in-Other c =
    let self = c.args.self.now in
    (rw c.split-v.ensures at c.other_arc.ensures) ∙ ap (arc_of self.plain.network.now self.plain.timetable.now self.hierarchy.now (node_of c.args.p) (is_down c.args.p)) c.in-Other.ensures.value
