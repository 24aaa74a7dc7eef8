-- Where the targets of a search stand in their list.
use Rattle.std.specs.Prelude.{◌≡◌, ℕ, suc, ◌<◌, List, slice_index}

-- the node is among those that have a place
abbrev pub IsPlaced : List ℕ → ℕ → Type 0
IsPlaced places v = 0 < slice_index places v

-- the place of a node among the first so many, and 1, or 0 where it is not among them; of one that stands there twice, one of its places
pub record ArePlaces (nodes places : List ℕ) (count : ℕ) : Type 0 where
  pub there : (v k : ℕ) → slice_index places v ≡ suc k → (k < count) × (slice_index nodes k ≡ v)
  pub each : (k : ℕ) → k < count → IsPlaced places (slice_index nodes k)
