-- What a run says by its outcome, put together from what it reads, keeps and writes.
use Rattle.std.specs.Prelude.{◌≡◌, ℕ, ◌⊎◌, ⊤, List, take, Option, Result, Ok, Err}
use Rattle.plan_base.specs.{Rose, ShelfMeaning, IsLater, HasRead, Caps}
use Rattle.plan_base.specs.Sinks as sinks
use Rattle.mode_network.specs.NetworkLists.{NetworkLists}
use Rattle.hierarchy.specs.{HierarchyLists}
use Rattle.run_steps.specs.{Certificate, Outcome, Done, WriteFault, OutOfMemory, IsUnverified, SayingOf, with_shelf, HasWritten, IsUnread, most_bytes, Scene.Scene}
use Rattle.answer_commands.specs.{SpellsValid, best_certificates, HasBoth, IsBothOutcome}
use Rattle.journey_book.specs.{Books.Book, Keepers.KeeperMeaning, Keepers.Becomes, Keepers.BookStays, Keepers.Tells, declared.outcome.BookOutcome.BookOutcome, declared.outcome.BookOutcome.TheVariants.Common, declared.outcome.BookOutcome.TheVariants.KeepFault, declared.outcome.BookOutcome.TheVariants.NotWell}

-- what is said of a run that works on a keeper too, by its outcome
abbrev pub BookSaying : Type 1
BookSaying = SayingOf KeeperMeaning BookOutcome

-- how a step of a run ends the run, or that it goes on to its end
abbrev pub book_end_of : Result ⊤ BookOutcome → BookOutcome
book_end_of (Ok _) = Common Done
book_end_of (Err outcome) = outcome

-- nothing is written, and the book stays
abbrev pub IsUntouched : Scene KeeperMeaning → Scene KeeperMeaning → Type 0
IsUntouched old new = sinks.Stays old.out new.out × BookStays old.more new.more

-- the run ends so, and nothing is changed
abbrev pub BookEnds : BookOutcome → BookSaying
BookEnds end old new outcome = (outcome ≡ end) × IsUntouched old new

-- the run ends as one of the planner that has this cause, and nothing is changed
abbrev pub EndsBy : (Outcome → Type 0) → BookSaying
EndsBy IsCause old new (Common outcome) = IsCause outcome × IsUntouched old new
EndsBy IsCause old new _ = ⊥

-- ---- reading

-- a region is read, and a hierarchy that is sound for it, if one is named: they are not to be had, or the rest says
-- this of them
abbrev pub OnBoth : Caps → List ℕ → Option (List ℕ) → (NetworkLists → Option HierarchyLists → BookSaying) → BookSaying
OnBoth caps region named rest old new outcome =
    EndsBy (IsBothOutcome caps old.shelf new.shelf region named) old new outcome
    ⊎ ((n : NetworkLists) × (h : Option HierarchyLists) × (mid : ShelfMeaning)
    × HasBoth caps old.shelf mid region named n h × rest n h (with_shelf old mid) new outcome)

-- the file of this name was read whole, and spells a certificate that is valid
pub record HasValid (n : NetworkLists) (h : Option HierarchyLists) (old new : ShelfMeaning)
    (name bytes : List ℕ) : Type 0 where
  pub file : HasRead old name most_bytes bytes
  pub later : IsLater old new
  pub valid : SpellsValid n h bytes

-- it was read whole, and spells none
pub record HasInvalid (n : NetworkLists) (h : Option HierarchyLists) (old new : ShelfMeaning)
    (name : List ℕ) (outcome : Outcome) : Type 0 where
  pub bytes : List ℕ
  pub file : HasRead old name most_bytes bytes
  pub later : IsLater old new
  pub fails : IsUnverified (best_certificates n h) bytes outcome

-- why no valid certificate was had
abbrev pub IsCertificateOutcome : NetworkLists → Option HierarchyLists → ShelfMeaning → ShelfMeaning
    → List ℕ → Outcome → Type 0
IsCertificateOutcome n h old new name outcome =
    IsUnread old new name Certificate outcome ⊎ HasInvalid n h old new name outcome

-- a certificate is read and verified: it is not to be had or not valid, or the rest says this of its bytes
abbrev pub OnValid : NetworkLists → Option HierarchyLists → List ℕ → (List ℕ → BookSaying) → BookSaying
OnValid n h name rest old new outcome =
    EndsBy (IsCertificateOutcome n h old.shelf new.shelf name) old new outcome
    ⊎ ((bytes : List ℕ) × (mid : ShelfMeaning) × HasValid n h old.shelf mid name bytes
    × rest bytes (with_shelf old mid) new outcome)

-- ---- the book

-- the book, which has P, becomes what the change makes of it; or the keeper fails, or memory runs out, and nothing is
-- changed
abbrev pub Changes : (Book → Type 0) → (Book → Book) → BookSaying
Changes P change old new (Common Done) =
    Tells old.more P × Becomes old.more new.more change × sinks.Stays old.out new.out
Changes P change old new (Common OutOfMemory) = IsUntouched old new
Changes P change old new KeepFault = Rose old.more.faults new.more.faults × IsUntouched old new
Changes P change old new _ = ⊥

-- ---- writing

-- a text that may end a run so, and these bytes begin it
abbrev pub BeginsOne : (List ℕ → BookOutcome → Type 0) → List ℕ → Type 0
BeginsOne IsText part =
    (whole : List ℕ) × (end : BookOutcome) × (count : ℕ) × IsText whole end × (part ≡ take count whole)

-- a text is written with which the run may end so, and the book stays
abbrev pub EndsWithText : (List ℕ → BookOutcome → Type 0) → BookSaying
EndsWithText IsText old new outcome =
    HasWritten (λ text. IsText text outcome) old.out new.out × BookStays old.more new.more

-- a text is written, which says how the run ends; or a front of one; or the keeper fails, or memory runs out, and
-- nothing is written
abbrev pub BookWrites : (List ℕ → BookOutcome → Type 0) → BookSaying
BookWrites IsText old new (Common Done) = EndsWithText IsText old new (Common Done)
BookWrites IsText old new NotWell = EndsWithText IsText old new NotWell
BookWrites IsText old new (Common WriteFault) =
    Rose old.out.faults new.out.faults × HasWritten (BeginsOne IsText) old.out new.out
    × BookStays old.more new.more
BookWrites IsText old new (Common OutOfMemory) = IsUntouched old new
BookWrites IsText old new KeepFault = Rose old.more.faults new.more.faults × IsUntouched old new
BookWrites IsText old new _ = ⊥

-- a text that has P, with which all is done
abbrev pub ThenDone : (List ℕ → Type 0) → List ℕ → BookOutcome → Type 0
ThenDone P text end = P text × (end ≡ Common Done)
