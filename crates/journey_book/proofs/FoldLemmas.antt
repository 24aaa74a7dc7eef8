-- Runs one after the other leave the book that their changes make of the first.
use Rattle.plan_base.proofs.Common.{◌≡◌, ◌∙◌, refl, ap, subst, sym, ℕ, ◌⊎◌, inl, inr, cond, List, [], ◌∷◌, Option, None, Some, IsSome, bytes_eq}
use Rattle.plan_base.specs.{ShelfMeaning, IsLater, Told, Caps}
use Rattle.mode_network.specs.NetworkLists.{NetworkLists}
use Rattle.hierarchy.specs.{HierarchyLists}
use Rattle.hierarchy_commands.specs.{IsFoundSound, IsNamedOutcome}
use Rattle.run_steps.specs.{Outcome, Done, Usage, WriteFault, OutOfMemory, with_shelf, Scene.Scene}
use Rattle.run_steps.proofs.Steps.{later_twice, not_earlier, told_before}
use Rattle.answer_commands.specs.{HasBoth, IsBothOutcome}
use Rattle.journey_book.specs.{Book, dropped, kept, KeeperMeaning, Becomes, BookStays, Tells, book_says, IsBookOutcome, IsListing, IsReported, report_rule, AsksOfBook, BookRequest, keep, drop, list, show, report, Change, Does, Run, RunsFold, book_after, changed, keeps, drops, nothing, Changes, EndsBy, IsCertificateOutcome, OnBoth, ThenDone, BookWrites, BookOutcome, Common, NotWell, declared.outcome.BookOutcome.TheVariants.KeepFault}

-- ---- books that are alike name by name

abbrev AreAlike : Book → Book → Type 0
AreAlike a b = (name : List ℕ) → a name ≡ b name

updated : (name : List ℕ) (held : Option (List ℕ)) (a b : Book) → AreAlike a b → (other : List ℕ) → cond (bytes_eq name other) held (a other) ≡ cond (bytes_eq name other) held (b other)
updated name held a b alike other = ap (cond (bytes_eq name other) held) (alike other)

changed_alike : (change : Change) (a b : Book) → AreAlike a b → AreAlike (changed a change) (changed b change)
changed_alike (keeps name body) a b alike = updated name (Some body) a b alike
changed_alike (drops name) a b alike = updated name None a b alike
changed_alike nothing a b alike = alike

after_alike : (changes : List Change) (a b : Book) → AreAlike a b → AreAlike (book_after changes a) (book_after changes b)
after_alike [] a b alike = alike
after_alike (change ∷ changes) a b alike = after_alike changes (changed a change) (changed b change) (changed_alike change a b alike)

-- ---- what one run does

-- the book stays, and the work is not done
abbrev IsIdle : Scene KeeperMeaning → Scene KeeperMeaning → BookOutcome → Type 0
IsIdle old new outcome = BookStays old.more new.more × (outcome ≡ Common Done → ⊥)

-- the work is done, and the book becomes what the change makes of it; or neither
abbrev Moves : (Book → Book) → Scene KeeperMeaning → Scene KeeperMeaning → BookOutcome → Type 0
Moves change old new outcome = IsIdle old new outcome ⊎ ((outcome ≡ Common Done) × Becomes old.more new.more change)

not_done : (outcome : Outcome) → (outcome ≡ Done → ⊥) → Common outcome ≡ Common Done → ⊥
not_done outcome not done = let same : outcome ≡ Done = cc in not same

-- a run that ends so has not done its work
by_idle : (IsCause : Outcome → Type 0) → (IsCause Done → ⊥) → (old new : Scene KeeperMeaning) (outcome : BookOutcome) → EndsBy IsCause old new outcome → IsIdle old new outcome
by_idle IsCause not old new (Common outcome) (why, same) = (same.1, not_done outcome (λ done. not (subst IsCause done why)))
by_idle IsCause not old new outcome none = absurd none

changes_move : (P : Book → Type 0) (change : Book → Book) (old new : Scene KeeperMeaning) (outcome : BookOutcome) → Changes P change old new outcome → Moves change old new outcome
changes_move P change old new (Common Done) (tells, becomes, unwritten) = inr (refl, becomes)
changes_move P change old new (Common OutOfMemory) same = inl (same.1, not_done OutOfMemory (λ done. cc))
changes_move P change old new KeepFault (rose, same) = inl (same.1, λ done. cc)
changes_move P change old new outcome none = absurd none

writes_stay : (IsText : List ℕ → BookOutcome → Type 0) (old new : Scene KeeperMeaning) (outcome : BookOutcome) → BookWrites IsText old new outcome → BookStays old.more new.more
writes_stay IsText old new (Common Done) (written, stays) = stays
writes_stay IsText old new NotWell (written, stays) = stays
writes_stay IsText old new (Common WriteFault) (rose, front, stays) = stays
writes_stay IsText old new (Common OutOfMemory) same = same.1
writes_stay IsText old new KeepFault (rose, same) = same.1
writes_stay IsText old new outcome none = absurd none

by_stays : (IsCause : Outcome → Type 0) (old new : Scene KeeperMeaning) (outcome : BookOutcome) → EndsBy IsCause old new outcome → BookStays old.more new.more
by_stays IsCause old new (Common outcome) (why, same) = same.1
by_stays IsCause old new outcome none = absurd none

-- a report leaves the book
report_stays : (caps : Caps) (region : List ℕ) (named : Option (List ℕ)) (IsText : NetworkLists → Option HierarchyLists → List ℕ → BookOutcome → Type 0) (old new : Scene KeeperMeaning) (outcome : BookOutcome)
    → OnBoth caps region named (λ n h. BookWrites (IsText n h)) old new outcome → BookStays old.more new.more
report_stays caps region named IsText old new outcome (inl ends) = by_stays (IsBothOutcome caps old.shelf new.shelf region named) old new outcome ends
report_stays caps region named IsText old new outcome (inr (n, h, mid, both, wrote)) = writes_stay (IsText n h) (with_shelf old mid) new outcome wrote

-- ---- what was read is told of the first shelf

found_later : (old new : ShelfMeaning) (n : NetworkLists) (named : Option (List ℕ)) (h : Option HierarchyLists) → IsFoundSound old new n named h → IsLater old new
found_later old new n None None same = subst (λ (s : ShelfMeaning). IsLater old s) (sym same) (not_earlier old)
found_later old new n None (Some h) none = absurd none
found_later old new n (Some name) None none = absurd none
found_later old new n (Some name) (Some h) has = has.later

both_later : (caps : Caps) (old new : ShelfMeaning) (region : List ℕ) (named : Option (List ℕ)) (n : NetworkLists) (h : Option HierarchyLists) → HasBoth caps old new region named n h → IsLater old new
both_later caps old new region named n h both = later_twice old both.mid new both.later (found_later both.mid new n named h both.found)

not_named : (old new : ShelfMeaning) (n : NetworkLists) (named : Option (List ℕ)) → IsNamedOutcome old new n named Done → ⊥
not_named old new n None none = none
not_named old new n (Some name) (inl unread) = unread
not_named old new n (Some name) (inr has) = has.unsound

not_both : (caps : Caps) (old new : ShelfMeaning) (region : List ℕ) (named : Option (List ℕ)) → IsBothOutcome caps old new region named Done → ⊥
not_both caps old new region named (inl unread) = unread
not_both caps old new region named (inr lacks) = not_named lacks.mid new lacks.n named lacks.lacks

not_certificate : (n : NetworkLists) (h : Option HierarchyLists) (old new : ShelfMeaning) (name : List ℕ) → IsCertificateOutcome n h old new name Done → ⊥
not_certificate n h old new name (inl unread) = unread
not_certificate n h old new name (inr has) = has.fails

-- the certificate of a file is kept under the name; or neither
abbrev Keeps : List ℕ → List ℕ → Scene KeeperMeaning → Scene KeeperMeaning → BookOutcome → Type 0
Keeps name certificate old new outcome =
    IsIdle old new outcome ⊎ ((body : List ℕ) × (outcome ≡ Common Done) × Told old.shelf certificate (λ held. held ≡ Some body) × Becomes old.more new.more (kept name body))

certificate_keeps : (caps : Caps) (name region certificate : List ℕ) (named : Option (List ℕ)) (old new : Scene KeeperMeaning) (outcome : BookOutcome)
    → book_says caps (keep name region certificate named) old new outcome → Keeps name certificate old new outcome
certificate_keeps caps name region certificate named old new outcome (inl ends) = inl (by_idle (IsBothOutcome caps old.shelf new.shelf region named) (not_both caps old.shelf new.shelf region named) old new outcome ends)
certificate_keeps caps name region certificate named old new outcome (inr (n, h, mid, both, inl ends)) =
    let idle = by_idle (IsCertificateOutcome n h mid new.shelf certificate) (not_certificate n h mid new.shelf certificate) (with_shelf old mid) new outcome ends in
    inl (idle.0, idle.1)
certificate_keeps caps name region certificate named old new outcome (inr (n, h, mid, both, inr (bytes, then, has, changed))) =
    moved (changes_move (λ book. Unit {0}) (kept name bytes) (with_shelf old then) new outcome changed)
  where
    moved : Moves (kept name bytes) (with_shelf old then) new outcome → Keeps name certificate old new outcome
    moved (inl idle) = inl (idle.0, idle.1)
    moved (inr (done, becomes)) =
        inr (bytes, done, told_before old.shelf mid (both_later caps old.shelf mid region named n h both) certificate (λ held. held ≡ Some bytes) has.file.file, becomes)

-- a run, and what it does
record DoesSo (run : Run) : Type 0 where
  change : Change
  does : Does run change
  becomes : Becomes run.old.more run.new.more (λ book. changed book change)

idles : (run : Run) → IsIdle run.old run.new run.outcome → DoesSo run
idles run (stays, not) = record { change = nothing; does = inl not; becomes = stays }

asked_to : (caps : Caps) (run : Run) (r : BookRequest) → AsksOfBook run.words r → book_says caps r run.old run.new run.outcome → DoesSo run
asked_to caps run (keep name region certificate hierarchy) asks said = of (certificate_keeps caps name region certificate hierarchy run.old run.new run.outcome said)
  where
    of : Keeps name certificate run.old run.new run.outcome → DoesSo run
    of (inl idle) = idles run idle
    of (inr (body, done, told, becomes)) = record { change = keeps name body; does = (done, region, certificate, hierarchy, asks, told); becomes = becomes }
asked_to caps run (drop name) asks (inl (none, ends)) = let e = ends.0 in idles run (ends.1.1, λ done. cc)
asked_to caps run (drop name) asks (inr changes) = of (changes_move (λ book. IsSome (book name)) (dropped name) run.old run.new run.outcome changes)
  where
    of : Moves (dropped name) run.old run.new run.outcome → DoesSo run
    of (inl idle) = idles run idle
    of (inr (done, becomes)) = record { change = drops name; does = (done, asks); becomes = becomes }
asked_to caps run list asks said = record { change = nothing; does = inr (list, asks, refl); becomes = writes_stay (ThenDone (IsListing run.old.more)) run.old run.new run.outcome said }
asked_to caps run (show name) asks (inl (none, ends)) = let e = ends.0 in idles run (ends.1.1, λ done. cc)
asked_to caps run (show name) asks (inr writes) =
    record { change = nothing; does = inr (show name, asks, refl); becomes = writes_stay (ThenDone (λ text. Tells run.old.more (λ book. book name ≡ Some text))) run.old run.new run.outcome writes }
asked_to caps run (report kind region hierarchy fail) asks said = record {
  change = nothing;
  does = inr (report kind region hierarchy fail, asks, refl);
  becomes = report_stays caps region hierarchy (λ n h. IsReported (report_rule kind n h) fail run.old.more) run.old run.new run.outcome said;
}

one_run : (caps : Caps) (run : Run) → IsBookOutcome caps run.words run.old run.new run.outcome → DoesSo run
one_run caps run (inl (refused, ends)) = let e = ends.0 in idles run (ends.1.1, λ done. not_done Usage (λ same. cc) (sym e ∙ done))
one_run caps run (inr (r, asks, said)) = asked_to caps run r asks said

pub runs_fold : RunsFold
runs_fold caps first last [] same book is = ([], tt, book, ap (λ (k : KeeperMeaning). k.book) same ∙ is, λ name. refl)
runs_fold caps first last (run ∷ runs) (same, outcome, more) book is =
    let one = one_run caps run outcome in
    let then = one.becomes book (ap (λ (k : KeeperMeaning). k.book) same ∙ is) in
    let rest = runs_fold caps run.new.more last runs more then.0 then.1 in (
      one.change ∷ rest.0,
      (one.does, rest.1),
      rest.2,
      rest.3,
      λ name. rest.4 name ∙ after_alike rest.0 then.0 (changed book one.change) then.2 name,
    )
