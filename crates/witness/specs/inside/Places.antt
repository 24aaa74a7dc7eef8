-- What is known of nodes in a round.
use Rattle.std.specs.Prelude.{◌≡◌, ℕ, ◌≤◌, List, All, Some, slice_get}
use Rattle.witness.specs.declared.place.Place.{Place}

-- no place is of a later round
abbrev pub ArePast : ℕ → List Place → Type 0
ArePast round places = All (λ (place : Place). place.round ≤ round) places

-- the least weight so far of a walk to v, and the node before it there
abbrev pub Known : List Place → ℕ → ℕ → ℕ → ℕ → Type 0
Known places round v at parent = slice_get places v ≡ Some (record { at = at; parent = parent; round = round })

-- some walk to v weighs no more
pub record IsKnownWithin (places : List Place) (round v limit : ℕ) : Type 0 where
  pub at : ℕ
  pub parent : ℕ
  pub known : Known places round v at parent
  pub within : at ≤ limit
