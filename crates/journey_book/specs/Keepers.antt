-- What a keeper is: what it keeps, as far as it tells it, and how often it failed.
use Rattle.std.specs.Prelude.{◌≡◌, ℕ, List, Option, Some, IfSome}
use Rattle.plan_base.specs.{Rose}
use Rattle.journey_book.specs.Books.{Book}
pub use Rattle.journey_book.specs.{declared.keeper.KeepFault.KeepFault, declared.keeper.KeepFault.TheVariants.Failed, declared.keeper.KeepFault.TheVariants.OutOfMemory}

-- what a keeper keeps, where it tells; and how often it failed
pub record KeeperMeaning : Type 0 where
  pub book : Option Book
  pub faults : ℕ

-- where the keeper tells, its book has P
abbrev pub Tells : KeeperMeaning → (Book → Type 0) → Type 0
Tells keeper P = IfSome keeper.book P

-- where the keeper tells, its book becomes what the change makes of it
abbrev pub Becomes : KeeperMeaning → KeeperMeaning → (Book → Book) → Type 0
Becomes old new change =
    (book : Book) → old.book ≡ Some book → (then : Book) × (new.book ≡ Some then) × ((name : List ℕ) → then name ≡ change book name)

-- the book stays
abbrev pub BookStays : KeeperMeaning → KeeperMeaning → Type 0
BookStays old new = Becomes old new (λ book. book)

-- a failure was counted; want of memory needs no cause
abbrev pub IsKeepFault : KeeperMeaning → KeeperMeaning → KeepFault → Type 0
IsKeepFault old new Failed = Rose old.faults new.faults
IsKeepFault old new OutOfMemory = Unit {0}
