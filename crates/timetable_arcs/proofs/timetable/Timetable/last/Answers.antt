use Rattle.plan_base.proofs.Common.{◌≡◌, ◌<◌, ◌∙◌, length, subst, sym, []}
use Rattle.timetable_arcs.specs.{inside.lists_of, TableLists, pattern_trip, last_run, IsLastRun}
use Rattle.timetable_arcs.proofs.{TableLemmas.last_in_words, ReadLemmas.read_at, ReadLemmas.last_read, ReadLemmas.arrives_rise_read}
use Rattle.timetable_arcs.proofs.timetable.Timetable.last.Goals as goal

pub last_by-requires : goal.last_by-requires
last_by-requires c =
    let inside = subst (λ (t : TableLists). c.args.p < length t.patterns) (sym c.self.view_is) c.requires.pattern in
    let inside_call = subst (λ (t : TableLists). c.args.call < length (pattern_trip t c.args.p).calls) (sym c.self.view_is) c.requires.call in
    arrives_rise_read (lists_of c.self.inside) c.args.p c.args.call c.args.t _ _ _ c.deref.ensures.value c.deref-2.ensures.value
    (read_at c.self.inside.patterns.items c.args.p _ _ [] inside c.index.ensures c.runs-runs.ensures) c.self.invariant.rules inside_call

pub returns-clause-is : goal.returns-clause-is
returns-clause-is c =
    let inside = subst (λ (t : TableLists). c.args.p < length t.patterns) (sym c.self.view_is) c.requires.pattern in
    subst (λ (t : TableLists). c.last_by.result ≡ last_run t c.args.p c.args.call c.args.t) c.self.view_is
    (c.last_by.ensures ∙ last_read (lists_of c.self.inside) c.args.p c.args.call c.args.t _ _ _ c.deref.ensures.value c.deref-2.ensures.value
    (read_at c.self.inside.patterns.items c.args.p _ _ [] inside c.index.ensures c.runs-runs.ensures))

pub returns-clause-last : goal.returns-clause-last
returns-clause-last c =
    let inside = subst (λ (t : TableLists). c.args.p < length t.patterns) (sym c.self.view_is) c.requires.pattern in
    let inside_call = subst (λ (t : TableLists). c.args.call < length (pattern_trip t c.args.p).calls) (sym c.self.view_is) c.requires.call in
    subst (λ (t : TableLists). IsLastRun t c.args.p c.args.call c.args.t c.last_by.result) c.self.view_is
    (last_in_words (lists_of c.self.inside) c.self.invariant.rules c.args.p c.args.call c.args.t c.last_by.result inside_call
    (sym (c.last_by.ensures ∙ last_read (lists_of c.self.inside) c.args.p c.args.call c.args.t _ _ _ c.deref.ensures.value c.deref-2.ensures.value
    (read_at c.self.inside.patterns.items c.args.p _ _ [] inside c.index.ensures c.runs-runs.ensures))))
