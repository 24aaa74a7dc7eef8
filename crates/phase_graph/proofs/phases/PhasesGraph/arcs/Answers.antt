use Rattle.plan_base.proofs.Common.{◌*◌, ◌^◌, ◌<◌, length, refl, subst, arith}
use Rattle.timetable_arcs.specs.{IsTable}
use Rattle.phase_graph.specs.{node_of, is_down}
use Rattle.phase_graph.proofs.WayTies.{few_others}
use Rattle.phase_graph.proofs.phases.PhasesGraph.arcs.Goals as goal

pub overflow_add-result-2 : goal.overflow_add-result-2
overflow_add-result-2 c =
    let self = c.args.self.now in
    let few = few_others self.plain.network.now self.plain.kept self.plain.timetable.now (subst IsTable c.timetable.ensures.same c.timetable.ensures.keeps) (node_of c.args.p) (is_down c.args.p) in
    let others = rw c.split-v.ensures at c.others.ensures in
    let ups : length c.rises_at.result.now * 4 < 2 ^ 63 = c.rises_at.type_inv.1 in
    omega (arith, others, few, ups, c.entries_at.ensures.few)

pub returns : goal.returns
returns c =
    let rises = rw c.split-v.ensures at c.rises_at.ensures.list in
    let entries = rw c.split-v.ensures at c.entries_at.ensures.count in
    let others = rw c.split-v.ensures at c.others.ensures in
    rw (rises, entries, others) refl
