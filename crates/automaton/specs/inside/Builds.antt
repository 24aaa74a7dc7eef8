-- What building the positions of a part adds.
use Rattle.std.specs.Prelude.{◌≡◌, ℕ, ◌+◌, ◌≤◌, Bool, true, false, List, ◌++◌, map, reverse}
use Rattle.automaton.specs.{declared.builder.Draft.Draft, declared.builder.Builder.Builder, declared.position_set.PositionSet.PositionSet, Written.Written, Written.size, inside.Rows.PositionRow, inside.Rows.entry, inside.Rows.position_rows, inside.Sets.has}

abbrev pub draft_row : Draft → PositionRow
draft_row draft = record { letters = draft.letters; next = has draft.next }

-- the positions that are left to number, whether rows are left out, and the rows from the last position back
pub record Built : Type 0 where
  pub at : ℕ
  pub dry : Bool
  pub rows : List PositionRow

abbrev pub built_of : Builder → Built
built_of builder = record { at = builder.at; dry = builder.dry; rows = map draft_row builder.drafts.items }

abbrev pub grown : Bool → List PositionRow → List PositionRow → List PositionRow
grown true list more = list
grown false list more = list ++ more

-- the positions of e were added, where K may be read after it; E may be read where it begins
pub record ArePositionsAdded (old new : Built) (e : Written) (K E : ℕ → Bool) : Type 0 where
  pub numbered : new.at + size e ≡ old.at
  pub same_mode : new.dry ≡ old.dry
  pub entered : E ≡ entry e new.at K
  pub rows_added : new.rows ≡ grown old.dry old.rows (reverse (position_rows e new.at K))

-- the same, where there are enough numbers
abbrev pub Adds : Built → Built → Written → (ℕ → Bool) → (ℕ → Bool) → Type 0
Adds old new e K E = size e ≤ old.at → ArePositionsAdded old new e K E

-- the same of a builder, before and after
abbrev pub AddsTo : Builder → Builder → Written → PositionSet → PositionSet → Type 0
AddsTo old new e after entered = Adds (built_of old) (built_of new) e (has after) (has entered)
