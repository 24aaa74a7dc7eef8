-- Runs over one book, one after the other.
use Rattle.std.specs.Prelude.{◌≡◌, ℕ, ◌⊎◌, Bool, true, false, List, [], ◌∷◌, fold, Option, Some}
use Rattle.std.specs.List.{AllZip}
use Rattle.plan_base.specs.{Told, Caps}
use Rattle.run_steps.specs.{Scene.Scene, Done}
use Rattle.journey_book.specs.{Books.Book, Books.dropped, Books.kept, Keepers.KeeperMeaning, Outcomes.IsBookOutcome, Requests.AsksOfBook, Requests.BookRequest, Requests.keep, Requests.drop, Requests.list, Requests.show, Requests.report, declared.outcome.BookOutcome.BookOutcome, declared.outcome.BookOutcome.TheVariants.Common}

-- what a run does to a book
pub data Change : Type 0 where
  keeps : (name body : List ℕ) → Change
  drops : (name : List ℕ) → Change
  nothing : Change

abbrev pub changed : Book → Change → Book
changed book (keeps name body) = kept name body book
changed book (drops name) = dropped name book
changed book nothing = book

-- a book after some changes
abbrev pub book_after : List Change → Book → Book
book_after changes book = fold changed book changes

-- a run with these words
pub record Run : Type 0 where
  pub words : List (List ℕ)
  pub old : Scene KeeperMeaning
  pub new : Scene KeeperMeaning
  pub outcome : BookOutcome

-- runs, each over the keeper that the one before it left
abbrev pub AreRuns : Caps → KeeperMeaning → List Run → KeeperMeaning → Type 0
AreRuns caps first [] last = last ≡ first
AreRuns caps first (run ∷ runs) last =
    (run.old.more ≡ first) × IsBookOutcome caps run.words run.old run.new run.outcome
    × AreRuns caps run.new.more runs last

-- whether a request is one to keep or to drop
abbrev pub may_change : BookRequest → Bool
may_change (keep name region certificate hierarchy) = true
may_change (drop name) = true
may_change list = false
may_change (show name) = false
may_change (report kind region hierarchy fail) = false

-- What a run that was asked to keep or to drop, and did its work, does to a book; any other does nothing. What is kept is what
-- the shelf holds under the certificate's name.
abbrev pub Does : Run → Change → Type 0
Does run (keeps name body) =
    (run.outcome ≡ Common Done) × (region : List ℕ) × (certificate : List ℕ) × (hierarchy : Option (List ℕ))
    × AsksOfBook run.words (keep name region certificate hierarchy)
    × Told run.old.shelf certificate (λ held. held ≡ Some body)
Does run (drops name) = (run.outcome ≡ Common Done) × AsksOfBook run.words (drop name)
Does run nothing =
    (run.outcome ≡ Common Done → ⊥) ⊎ ((r : BookRequest) × AsksOfBook run.words r × (may_change r ≡ false))

-- runs one after the other leave the book that their changes make of the first
abbrev pub RunsFold : Type 0
RunsFold = (caps : Caps) (first last : KeeperMeaning) (runs : List Run) → AreRuns caps first runs last
    → (book : Book) → first.book ≡ Some book
    → (changes : List Change) × AllZip Does runs changes × (then : Book) × (last.book ≡ Some then)
    × ((name : List ℕ) → then name ≡ book_after changes book name)
