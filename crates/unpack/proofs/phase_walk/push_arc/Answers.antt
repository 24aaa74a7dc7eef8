use Rattle.plan_base.proofs.Common.{true, false, refl, subst, on_ok_weaker}
use Rattle.timetable_arcs.specs.{IsTable}
use Rattle.plain_graph.specs.declared.plain.Plain.{Plain}
use Rattle.mode_network.proofs.RuleLemmas.{some_is}
use Rattle.phase_graph.specs.{is_fall, marks_in, Up, Down}
use Rattle.hierarchy.specs.{entry_at}
use Rattle.phase_graph.proofs.GraphLemmas.{taken}
use Rattle.unpack.proofs.PhaseLemmas.{by_entry, by_other}
use Rattle.unpack.proofs.phase_walk.push_arc.Goals as goal

pub returns-in-Up-clause-steps : goal.returns-in-Up-clause-steps
returns-in-Up-clause-steps c =
    let p = c.args.phases.now in
    let done = c.push_entry_at.ensures in
    let place = c.in-Up.place in
    on_ok_weaker c.push_entry_at.result (by_entry p.plain.network.now p.plain.kept p.plain.timetable.now p.hierarchy.now (marks_in p.falls.first.items) c.args.p c.args.i c.args.t c.args.steps.now.items c.push_entry_at.new.steps.items (Up place) false place
    c.in-Up.ensures.value refl (λ u e. some_is e) c.in-Up.ensures.fits.1 done.differ) done.roads

pub returns-in-Down-clause-steps : goal.returns-in-Down-clause-steps
returns-in-Down-clause-steps c =
    let p = c.args.phases.now in
    let done = c.push_entry_at-in-Down.ensures in
    let place = c.in-Down.place in
    on_ok_weaker c.push_entry_at-in-Down.result (by_entry p.plain.network.now p.plain.kept p.plain.timetable.now p.hierarchy.now (marks_in p.falls.first.items) c.args.p c.args.i c.args.t c.args.steps.now.items c.push_entry_at-in-Down.new.steps.items (Down place) true place
    c.in-Down.ensures.value refl (λ u e. (taken (is_fall p.hierarchy.now (marks_in p.falls.first.items) (entry_at p.hierarchy.now.entries place)) _ u e).1) c.in-Down.ensures.fits.1 done.differ) done.roads

pub returns-in-Other-clause-steps : goal.returns-in-Other-clause-steps
returns-in-Other-clause-steps c =
    let p = c.args.phases.now in
    let keeps = subst (λ (x : Plain). IsTable x.timetable.now) c.plain-plain.ensures (subst IsTable c.timetable.ensures.same c.timetable.ensures.keeps) in
    let list = rw (c.plain_arc.ensures.value, c.plain-plain.ensures) at c.push_steps.ensures in
    on_ok_weaker c.push_steps.result (by_other p.plain.network.now p.plain.kept p.plain.timetable.now p.hierarchy.now (marks_in p.falls.first.items) c.args.p c.args.i c.args.t c.args.steps.now.items c.push_steps.new.steps.items keeps p.plain.of c.in-Other.place
    c.in-Other.ensures.value c.in-Other.ensures.fits) list
