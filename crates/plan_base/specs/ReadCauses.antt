use Rattle.std.specs.Prelude.{◌≡◌, ℕ, ◌<◌, List, length, None, IsSomeAnd}
use Rattle.plan_base.specs.{Counts.Rose, Shelves.ShelfMeaning, Shelves.Told, declared.reading.ReadFault.TheVariants.Missing, declared.reading.ReadFault.TheVariants.Failed}
pub use Rattle.plan_base.specs.{declared.reading.ReadFault.ReadFault, declared.reading.ReadFault.TheVariants.TooLong, declared.reading.ReadFault.TheVariants.OutOfMemory}

-- why a whole file was refused; that memory ran out needs no cause
abbrev pub HasReadCause : ShelfMeaning → ShelfMeaning → List ℕ → ℕ → ReadFault → Type 0
HasReadCause old new name cap Missing = Rose old.misses new.misses × Told old name (λ held. held ≡ None)
HasReadCause old new name cap Failed = Rose old.faults new.faults
HasReadCause old new name cap (TooLong n) = (n ≡ cap) × Told old name (λ held. IsSomeAnd held (λ file. cap < length file))
HasReadCause old new name cap OutOfMemory = Unit {0}
