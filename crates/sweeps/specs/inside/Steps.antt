-- What the steps of a sweep make of times.
use Rattle.std.specs.Prelude.{◌≡◌, ℕ, ◌+◌, ◌<◌, ◌≤◌, ◌⊎◌, ◌^◌, List, length, All, Contains}
use Rattle.search_laws.specs.{Leg}
use Rattle.sweeps.specs.Sweeps.{time_at, ArrivesBy}

-- the time at a place is no later than t, which it is if it has changed; no other has
pub record IsLowered (place t : ℕ) (before after : List ℕ) : Type 0 where
  pub as_many : length after ≡ length before
  pub there : time_at after place ≤ t
  pub each : (j : ℕ) → (time_at after j ≡ time_at before j) ⊎ ((j ≡ place) × (time_at after j ≡ t) × (t < time_at before j) × (t + 1 < 2 ^ 32))

-- a leg leads to place j, so long after t
pub record IsSpreadBy (t : ℕ) (legs : List Leg) (j u : ℕ) : Type 0 where
  pub leg : Leg
  pub of : Contains legs leg
  pub to : leg.to ≡ j
  pub at : u ≡ t + leg.ms

-- the times at the ends of legs are no later than so long after t, and where they have changed they are
pub record AreSpread (t : ℕ) (legs : List Leg) (before after : List ℕ) : Type 0 where
  pub as_many : length after ≡ length before
  pub no_later : (j : ℕ) → time_at after j ≤ time_at before j
  pub reached : All (λ leg. ArrivesBy (2 ^ 32) t leg.ms (time_at after leg.to)) legs
  pub changed : (j : ℕ) → (time_at after j ≡ time_at before j) ⊎ IsSpreadBy t legs j (time_at after j)

-- a leg comes from a place, so long after the time there
pub record IsGatheredBy (times : List ℕ) (legs : List Leg) (u : ℕ) : Type 0 where
  pub leg : Leg
  pub of : Contains legs leg
  pub at : u ≡ time_at times leg.to + leg.ms

-- the least of t and the times so long after those where legs come from
pub record IsGathered (times : List ℕ) (t : ℕ) (legs : List Leg) (u : ℕ) : Type 0 where
  pub no_later : u ≤ t
  pub reached : All (λ leg. ArrivesBy (2 ^ 32) (time_at times leg.to) leg.ms u) legs
  pub changed : (u ≡ t) ⊎ IsGatheredBy times legs u
