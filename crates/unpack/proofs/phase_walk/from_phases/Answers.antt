use Rattle.plan_base.proofs.Common.{subst}
use Rattle.timetable_arcs.specs.{IsTable}
use Rattle.plain_graph.specs.declared.plain.Plain.{Plain}
use Rattle.phase_graph.specs.{marks_in, phase_meaning, node_of}
use Rattle.unpack.specs.{node_after, arrival_after, letters_in}
use Rattle.unpack.proofs.PhaseLemmas.{is_unpacked}
use Rattle.unpack.proofs.phase_walk.from_phases.Goals as goal

pub returns-clause-unpacked : goal.returns-clause-unpacked
returns-clause-unpacked c =
    let p = c.args.phases.now in
    let n = p.plain.network.now in
    let table = p.plain.timetable.now in
    let walk = c.args.walk.now in
    let hops = walk.hops.items in
    let keeps = subst (λ (x : Plain). IsTable x.timetable.now) c.plain.ensures (subst IsTable c.timetable.ensures.same c.timetable.ensures.keeps) in
    is_unpacked n p.plain.kept table keeps p.plain.of (node_of walk.node) walk.at (node_of (node_after walk.node hops)) (arrival_after walk.at hops)
    (letters_in (phase_meaning n table p.hierarchy.now (marks_in p.falls.first.items)) walk.node hops) c.in_ok-steps.field-0.items (rw c.deref.ensures.value at c.in_ok-steps.ensures)
