-- Where rows stand among what they consist of.
use Rattle.std.specs.Prelude.{◌≡◌, ℕ, ◌+◌, ◌-◌, ◌<◌, ◌≤◌, List, length, slice_index}

-- rows are bounded by these places among so many legs
pub record AreBounded (bounds : List ℕ) (legs : ℕ) : Type 0 where
  pub some : 0 < length bounds
  pub rise : (i : ℕ) → i + 1 < length bounds → slice_index bounds i ≤ slice_index bounds (i + 1)
  pub last : slice_index bounds (length bounds - 1) ≡ legs
