-- Rows in the order of their trips.
use Rattle.std.specs.Prelude.{ℕ, ◌≤◌, List, [], ◌∷◌, Bool, nat_eq, length, take_while}
use Rattle.gtfs_tables.specs.{CallRow, FrequencyRow}

-- the trips never fall, and are those from k on
abbrev pub Ascend : {X : Type 0} → (X → ℕ) → ℕ → List X → Type 0
Ascend trip k [] = Unit {0}
Ascend trip k (row ∷ rows) = (k ≤ trip row) × Ascend trip (trip row) rows

abbrev pub trip_of_call : CallRow → ℕ
trip_of_call call = call.trip

abbrev pub trip_of_frequency : FrequencyRow → ℕ
trip_of_frequency frequency = frequency.trip

-- a row is one of this trip
abbrev pub is_of : {X : Type 0} → (X → ℕ) → ℕ → X → Bool
is_of trip k row = nat_eq (trip row) k

-- how many rows of the trip stand in front
abbrev pub own_count : {X : Type 0} → (X → ℕ) → ℕ → List X → ℕ
own_count trip k rows = length (take_while (is_of trip k) rows)
