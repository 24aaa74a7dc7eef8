use Rattle.plan_base.proofs.Common.{List, ◌∙◌, ap, sym, subst, All}
use Rattle.timetable_arcs.specs.{IsTable}
use Rattle.mode_network.specs.{Step}
use Rattle.journey.specs.{AreOnTime}
use Rattle.unpack.specs.{IsSoon, steps_of, node_after, arrival_after, letters_of}
use Rattle.unpack.proofs.UnpackLemmas.{hops_on_time, are_real, have_arcs, steps_soon}
use Rattle.unpack.proofs.plain_walk.from_plain.Goals as goal

pub steps-requires : goal.steps-requires
steps-requires c =
    let plain = c.args.plain.now in
    let keeps = subst IsTable c.timetable.ensures.same c.timetable.ensures.keeps in
    rw c.deref.ensures.value (have_arcs plain.network.now plain.kept plain.timetable.now keeps plain.of c.args.walk.now.node c.args.walk.now.at c.args.walk.now.hops.items c.requires)

pub returns-clause-boarded : goal.returns-clause-boarded
returns-clause-boarded c =
    let plain = c.args.plain.now in
    let keeps = subst IsTable c.timetable.ensures.same c.timetable.ensures.keeps in
    let walk = c.args.walk.now in
    let steps = c.in_ok-steps.ensures ∙ ap (steps_of plain.network.now plain.timetable.now walk.node walk.at) c.deref.ensures.value in
    subst (λ (s : List Step). AreOnTime plain.network.now walk.node walk.at s (node_after walk.node walk.hops.items) (arrival_after walk.at walk.hops.items) (letters_of plain.network.now plain.timetable.now walk.node walk.hops.items)) (sym steps)
    (hops_on_time plain.network.now plain.kept plain.timetable.now keeps plain.of walk.node walk.at walk.hops.items c.requires)

pub returns-clause-real : goal.returns-clause-real
returns-clause-real c =
    let plain = c.args.plain.now in
    let keeps = subst IsTable c.timetable.ensures.same c.timetable.ensures.keeps in
    are_real plain.network.now plain.kept plain.timetable.now keeps plain.of _ _ _ _ _ _ (returns-clause-boarded c)

pub returns-clause-soon : goal.returns-clause-soon
returns-clause-soon c =
    let plain = c.args.plain.now in
    let keeps = subst IsTable c.timetable.ensures.same c.timetable.ensures.keeps in
    let walk = c.args.walk.now in
    let steps = c.in_ok-steps.ensures ∙ ap (steps_of plain.network.now plain.timetable.now walk.node walk.at) c.deref.ensures.value in
    subst (λ (s : List Step). All IsSoon s) (sym steps) (steps_soon plain.network.now plain.kept plain.timetable.now keeps plain.of walk.node walk.at walk.hops.items
    (have_arcs plain.network.now plain.kept plain.timetable.now keeps plain.of walk.node walk.at walk.hops.items c.requires))
