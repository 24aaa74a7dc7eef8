use Rattle.plan_base.proofs.Common.{◌≡◌, ◌++◌, ◌∷◌, [], ap, sym, ◌∙◌, Bool, true, false, not, Option, Some, None, is_some, refl, to_z-of_z, int_eq}
use Rattle.indexmap.proofs.CallerLemmas.{insert_entry-new}
use Rattle.opl_reader.proofs.gathered.note_node.Goals as goal

none_is : {X : Type 0} (o : Option X) (t : Bool) → is_some o ≡ not t → t ≡ true → o ≡ None
none_is None t e h = refl
none_is (Some x) true e h = absurd cc
none_is (Some x) false e h = absurd cc

pub returns-clause-entries : goal.returns-clause-entries
returns-clause-entries c = λ new.
    let same = to_z-of_z _ c.args.id c.ranges.id in
    let none = sym c.in_ok-old.ensures.old ∙ none_is c.in_ok-old.old c.is_none.result c.is_none.ensures new in
    c.in_ok-old.ensures.entries ∙ insert_entry-new int_eq c.args.seen.now _ c.args.has_place none ∙ ap (λ id. c.args.seen.now.entries ++ (id, c.args.has_place) ∷ []) same
