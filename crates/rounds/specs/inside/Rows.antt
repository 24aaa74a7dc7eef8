-- Delays in rows: by row, and by place in it. The greatest number stands for never.
use Rattle.std.specs.Prelude.{◌≡◌, ℕ, zero, suc, ◌-◌, ◌^◌, ◌<◌, ◌≤◌, ◌⊎◌, List, [], ◌∷◌, length, Vec}
use Rattle.std.specs.declared.alloc.Global.{Global}
use Rattle.sweeps.specs.{time_at}

abbrev pub never : ℕ
never = 2 ^ 32 - 1

-- the row at a place: those past the end are empty
abbrev pub row_of : List (Vec ℕ Global) → ℕ → List ℕ
row_of [] k = []
row_of (row ∷ rows) zero = row.items
row_of (row ∷ rows) (suc k) = row_of rows k

abbrev pub cell : List (Vec ℕ Global) → ℕ → ℕ → ℕ
cell rows k i = time_at (row_of rows k) i

-- so many rows, each with so many delays
pub record HaveShape (count width : ℕ) (rows : List (Vec ℕ Global)) : Type 0 where
  pub count_is : length rows ≡ count
  pub width_is : (k : ℕ) → k < count → length (row_of rows k) ≡ width

-- Rows of the same shape, in which no delay is longer. One that is another is so by P.
pub record AreLowered (P : ℕ → ℕ → ℕ → Type 0) (old new : List (Vec ℕ Global)) : Type 0 where
  pub count_is : length new ≡ length old
  pub width_is : (k : ℕ) → length (row_of new k) ≡ length (row_of old k)
  pub no_later : (k i : ℕ) → cell new k i ≤ cell old k i
  pub by : (k i : ℕ) → (cell new k i ≡ cell old k i) ⊎ P k i (cell new k i)

-- A row as long as before, in which no delay is longer. One that is another is so by P.
pub record IsRowLowered (P : ℕ → ℕ → Type 0) (old new : List ℕ) : Type 0 where
  pub as_many : length new ≡ length old
  pub no_later : (i : ℕ) → time_at new i ≤ time_at old i
  pub by : (i : ℕ) → (time_at new i ≡ time_at old i) ⊎ P i (time_at new i)
