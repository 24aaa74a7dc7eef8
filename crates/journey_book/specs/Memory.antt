-- What a keeper in memory keeps.
use Rattle.std.specs.Prelude.{◌≡◌, ℕ, nat_eq, Bool, true, false, List, Some, Vec, option_map, Result, Ok, Err}
use Rattle.std.specs.List.{list_any}
use Rattle.std.specs.declared.string.String.{String}
use Rattle.std.specs.declared.alloc.Global.{Global}
use Rattle.std.specs.BTreeMap.{BTreeMap, get_by_text}
use Rattle.plan_base.specs.{count_after}
use Rattle.journey_book.specs.{Books.Book, Keepers.KeeperMeaning, declared.keeper.KeepFault.KeepFault, declared.keeper.KeepFault.TheVariants.Failed, declared.keeper.KeepFault.TheVariants.OutOfMemory}
pub use Rattle.journey_book.specs.declared.memory_keeper.MemoryKeeper.{MemoryKeeper}

-- the book that a map of names is
abbrev pub book_of : BTreeMap (String Global) (Vec ℕ Global) → Book
book_of map name = option_map (λ body. body.items) (get_by_text map name)

-- it tells its book
abbrev pub memory_meaning : MemoryKeeper → KeeperMeaning
memory_meaning keeper = record { book = Some (book_of keeper.map); faults = keeper.faults }

-- a call failed; one for which memory ran out did not
abbrev pub has_failed : {X : Type 0} → Result X KeepFault → Bool
has_failed (Ok x) = false
has_failed (Err Failed) = true
has_failed (Err OutOfMemory) = false

-- a call was counted, and failed exactly where its number, from 1, is among those that fail
pub record IsCounted (old new : MemoryKeeper) (failed : Bool) : Type 0 where
  pub calls : new.calls ≡ count_after old.calls
  pub fail_is : new.fail.items ≡ old.fail.items
  pub failed_is : failed ≡ list_any (λ n. nat_eq n new.calls) old.fail.items

-- no call was made yet, and those with these numbers will fail
pub record IsUncalled (keeper : MemoryKeeper) (fail : List ℕ) : Type 0 where
  pub calls : keeper.calls ≡ 0
  pub fail_is : keeper.fail.items ≡ fail
