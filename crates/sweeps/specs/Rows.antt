-- Legs in rows.
use Rattle.std.specs.Prelude.{ℕ, ◌+◌, ◌-◌, ◌<◌, List, length, All, slice_index, slice_range}
use Rattle.search_laws.specs.{Leg}
pub use Rattle.sweeps.specs.{declared.rows.Rows.Rows}

abbrev pub count_of : Rows → ℕ
count_of rows = length rows.bounds.items - 1

abbrev pub row_at : Rows → ℕ → List Leg
row_at rows i = slice_range rows.legs.items (slice_index rows.bounds.items i) (slice_index rows.bounds.items (i + 1))

-- legs from place i to places further on, of so many
abbrev pub LeadOnFrom : ℕ → ℕ → List Leg → Type 0
LeadOnFrom count i row = All (λ leg. (i < leg.to) × (leg.to < count)) row

-- the legs of each row do
abbrev pub LeadOn : Rows → ℕ → Type 0
LeadOn rows count = (i : ℕ) → i < count → LeadOnFrom count i (row_at rows i)
