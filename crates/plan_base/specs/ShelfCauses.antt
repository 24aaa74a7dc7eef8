use Rattle.std.specs.Prelude.{◌≡◌, ℕ, List, None}
use Rattle.plan_base.specs.{Counts.Rose, Shelves.ShelfMeaning, Shelves.Told, declared.reading.ShelfError.ShelfError, declared.reading.ShelfError.TheVariants.Missing, declared.reading.ShelfError.TheVariants.Failed}

-- why a read was refused: the name was missed, and is not there; or reading failed
abbrev pub HasCause : ShelfMeaning → ShelfMeaning → List ℕ → ShelfError → Type 0
HasCause old new name Missing = Rose old.misses new.misses × Told old name (λ held. held ≡ None)
HasCause old new name Failed = Rose old.faults new.faults
