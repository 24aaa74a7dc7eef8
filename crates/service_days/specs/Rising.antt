use Rattle.std.specs.Prelude.{ℕ, ◌<◌, List, length, slice_index}

-- each number is below those after it
abbrev pub Rise : List ℕ → Type 0
Rise xs = (j k : ℕ) → j < k → k < length xs → slice_index xs j < slice_index xs k
