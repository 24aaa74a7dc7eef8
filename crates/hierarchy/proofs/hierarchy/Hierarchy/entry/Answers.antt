use Rattle.plan_base.proofs.Common.{List, get_or, of_calls, rules, subst, sym, slice_range, always_returns_same, get_or_default}
use Rattle.hierarchy.specs.{Entry, AreFrom, HasNoEntry, IsEntryFor, no_entry}
use Rattle.hierarchy.proofs.LookupLemmas.{end_cmp, entry_found, entry_missing}
use Rattle.hierarchy.proofs.hierarchy.Hierarchy.entry.Goals as goal

pub returns-in-Ok : goal.returns-in-Ok
returns-in-Ok c =
    let entries = c.entries.result.now in
    let range = c.entries_from-first.result in
    let are = subst (λ (es : List Entry). AreFrom es c.args.u range.0 range.1) (sym c.entries.ensures) c.entries_from-first.ensures.are in
    let row = slice_range entries range.0 range.1 in
    let e = get_or row c.in-Ok.place no_entry in
    let same = c.in-Ok.ensures.position (end_cmp c.args.v) (always_returns_same _ _ _ (λ a r f k. search (rules, of_calls))) in
    subst (λ (es : List Entry). IsEntryFor es c.args.u c.args.v e) c.entries.ensures
    (entry_found entries c.args.u range.0 range.1 are c.args.v c.in-Ok.place e c.in-Ok.ensures.bound (get_or_default row c.in-Ok.place no_entry e c.in-Ok.ensures.bound) (same no_entry))

pub returns-in-Err : goal.returns-in-Err
returns-in-Err c =
    let entries = c.entries.result.now in
    let range = c.entries_from-first.result in
    let are = subst (λ (es : List Entry). AreFrom es c.args.u range.0 range.1) (sym c.entries.ensures) c.entries_from-first.ensures.are in
    subst (λ (es : List Entry). HasNoEntry es c.args.u c.args.v) c.entries.ensures
    (entry_missing entries c.args.u range.0 range.1 are (rw c.entries.ensures c.known.ensures.entries_ascend) c.args.v c.in-Err.field-0
    (c.in-Err.ensures.position (end_cmp c.args.v) (always_returns_same _ _ _ (λ a r f k. search (rules, of_calls)))))
