-- Query lines that come to more than a run allows: whose expressions have too many places, or whose searches have too many labels.
use Rattle.std.specs.Prelude.{◌≡◌, ℕ, ◌<◌, ◌⊎◌, List, ◌++◌, Option, Some, None, codes, decimal}
use Rattle.plain_texts.specs.{with_feed}
use Rattle.mode_expression.specs.{places}
use Rattle.mode_network.specs.NetworkLists.{NetworkLists}
use Rattle.journey.specs.{declared.fault.QueryFault.TheVariants.TooLarge, Best.Asked, Best.Asks, Texts.refusal_text, Texts.block_text}

-- the line is a query, and its expression has so many places, which are more than are allowed
abbrev pub IsLarge : NetworkLists → Option ℕ → List ℕ → ℕ → Type 0
IsLarge n None line count = ⊥
IsLarge n (Some most) line count = (asked : Asked) × Asks n line asked × (count ≡ places asked.form) × (most < count)

-- it is not so large
abbrev pub IsSmall : NetworkLists → Option ℕ → List ℕ → Type 0
IsSmall n most line = (count : ℕ) → IsLarge n most line count → ⊥

-- what is right of a line within the places that are allowed: its refusal where it is large, and else what is right anyway
abbrev pub IsUnder : NetworkLists → Option ℕ → List ℕ → (ℕ → Type 0) → Type 0 → Type 0
IsUnder n most line IsRefusal Is = ((count : ℕ) × IsLarge n most line count × IsRefusal count) ⊎ (IsSmall n most line × Is)

-- the block that refuses a line for so many places
abbrev pub large_block : List ℕ → ℕ → List ℕ
large_block line count = block_text line (with_feed (refusal_text (TooLarge count)))

-- the right block of a line within the places that are allowed, where this is right without a limit
abbrev pub IsBlockUnder : NetworkLists → Option ℕ → (List ℕ → List ℕ → Type 0) → List ℕ → List ℕ → Type 0
IsBlockUnder n most IsBlock line block = IsUnder n most line (λ count. block ≡ large_block line count) (IsBlock line block)

-- the block of a line whose search was given up, since it has more than so many labels
abbrev pub stopped_block : List ℕ → ℕ → List ℕ
stopped_block line limit = block_text line (with_feed (codes "stopped " ++ decimal limit))

-- how many places the line's expression has, where they are more than are allowed
abbrev pub IsLargeIfAny : NetworkLists → Option ℕ → List ℕ → Option ℕ → Type 0
IsLargeIfAny n most line None = IsSmall n most line
IsLargeIfAny n most line (Some count) = IsLarge n most line count

-- the block that refuses the line, where its expression has more places than are allowed
abbrev pub IsLargeBlockIfAny : NetworkLists → Option ℕ → List ℕ → Option (List ℕ) → Type 0
IsLargeBlockIfAny n most line None = IsSmall n most line
IsLargeBlockIfAny n most line (Some block) = (count : ℕ) × IsLarge n most line count × (block ≡ large_block line count)
