use Rattle.plan_base.proofs.Common.{◌≡◌, ◌<◌, ◌∙◌, Some, length, subst, sym, [], arith, slice_get, common_steps, gets}
use Rattle.timetable_arcs.specs.{inside.lists_of, TableLists, pattern_trip, runs_of, next_run}
use Rattle.timetable_arcs.proofs.ReadLemmas.{read_at, next_read, departs_rise_read}
use Rattle.timetable_arcs.proofs.timetable.Timetable.next_placed.Goals as goal

pub first_from-place-requires : goal.first_from-place-requires
first_from-place-requires c =
    let inside = subst (λ (t : TableLists). c.args.p < length t.patterns) (sym c.self.view_is) c.requires.pattern in
    let inside_call = subst (λ (t : TableLists). c.args.call < length (pattern_trip t c.args.p).calls) (sym c.self.view_is) c.requires.call in
    departs_rise_read (lists_of c.self.inside) c.args.p c.args.call c.args.t _ _ _ c.deref.ensures.value c.deref-2.ensures.value
    (read_at c.self.inside.patterns.items c.args.p _ _ [] inside c.index.ensures c.runs-runs.ensures) c.self.invariant.rules inside_call

pub returns-clause-is : goal.returns-clause-is
returns-clause-is c =
    let inside = subst (λ (t : TableLists). c.args.p < length t.patterns) (sym c.self.view_is) c.requires.pattern in
    let got : slice_get c.runs-runs.result.now c.first_from-place.result ≡ Some c.in_ok-run.field-0.now = grind (arith, common_steps, gets) in
    subst (λ (t : TableLists). Some c.in_ok-run.field-0.now ≡ next_run t c.args.p c.args.call c.args.t) c.self.view_is
    (sym got ∙ (c.first_from-place.ensures ∙ next_read (lists_of c.self.inside) c.args.p c.args.call c.args.t _ _ _ c.deref.ensures.value c.deref-2.ensures.value
    (read_at c.self.inside.patterns.items c.args.p _ _ [] inside c.index.ensures c.runs-runs.ensures)))

pub returns-clause-place : goal.returns-clause-place
returns-clause-place c =
    let inside = subst (λ (t : TableLists). c.args.p < length t.patterns) (sym c.self.view_is) c.requires.pattern in
    let got : slice_get c.runs-runs.result.now c.first_from-place.result ≡ Some c.in_ok-run.field-0.now = grind (arith, common_steps, gets) in
    subst (λ (t : TableLists). slice_get (runs_of t c.args.p) c.first_from-place.result ≡ Some c.in_ok-run.field-0.now) c.self.view_is
    (subst (λ runs. slice_get runs c.first_from-place.result ≡ Some c.in_ok-run.field-0.now) (read_at c.self.inside.patterns.items c.args.p _ _ [] inside c.index.ensures c.runs-runs.ensures) got)
