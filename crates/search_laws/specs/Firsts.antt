-- What holds at all numbers below one, and where it fails first.
use Rattle.std.specs.Prelude.{ℕ, ◌<◌}

abbrev pub HoldsBelow : ℕ → (ℕ → Type 0) → Type 0
HoldsBelow n P = (k : ℕ) → k < n → P k

-- P fails at k, and at no place before
pub record FailsFirstAt (n : ℕ) (P : ℕ → Type 0) (k : ℕ) : Type 0 where
  pub place : k < n
  pub fails : P k → ⊥
  pub before : HoldsBelow k P
