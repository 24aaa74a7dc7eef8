-- What a run says by its outcome.
use Rattle.std.specs.Prelude.{◌≡◌, ℕ, ◌⊎◌, List, Some}
use Rattle.plan_base.specs.{Rose, Caps}
use Rattle.journey_book.specs.{Commands.book_says, Complete.CanBeDoneByBook, Complete.IsDoneOrAbsent, Keepers.KeeperMeaning, Requests.AreRefusedByBook, Requests.AsksOfBook, Requests.BookRequest, Sayings.BookEnds, declared.outcome.BookOutcome.BookOutcome, declared.outcome.BookOutcome.TheVariants.Common}
use Rattle.run_steps.specs.{Files, Usage, Scene.Scene}

-- What a run with these words says: that they are refused, where they ask for nothing; or what it says that was asked for.
abbrev pub IsBookOutcome : Caps → List (List ℕ) → Scene KeeperMeaning → Scene KeeperMeaning → BookOutcome → Type 0
IsBookOutcome caps words old new outcome =
    (AreRefusedByBook words × BookEnds (Common Usage) old new outcome)
    ⊎ ((r : BookRequest) × AsksOfBook words r × book_says caps r old new outcome)

-- Where the shelf tells that all files are there and without fault, and no count of faults rose, all of the work is done, unless
-- nothing is kept under the name or memory ran out.
abbrev pub IsBookComplete : Caps → List (List ℕ) → Scene KeeperMeaning → Scene KeeperMeaning → BookOutcome → Type 0
IsBookComplete caps words old new outcome =
    (r : BookRequest) (files : Files) → AsksOfBook words r → old.shelf.files ≡ Some files → CanBeDoneByBook caps files r
    → (Rose old.shelf.faults new.shelf.faults → ⊥) → (Rose old.more.faults new.more.faults → ⊥)
    → (Rose old.out.faults new.out.faults → ⊥)
    → IsDoneOrAbsent outcome
