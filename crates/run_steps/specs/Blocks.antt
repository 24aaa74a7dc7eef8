-- Right blocks of query lines, one after the other.
use Rattle.std.specs.Prelude.{◌≡◌, ℕ, ◌+◌, ◌⊎◌, List, [], ◌∷◌, ◌++◌, take}
use Rattle.plan_base.specs.{SinkMeaning, AppendedPart}
use Rattle.run_steps.specs.Sayings.{HasWritten}

-- which blocks are right for a line
abbrev pub BlockRule : Type 1
BlockRule = List ℕ → List ℕ → Type 0

-- a right block for each line, in order
abbrev pub AreBlocks : BlockRule → List (List ℕ) → List ℕ → Type 0
AreBlocks IsBlock [] out = out ≡ []
AreBlocks IsBlock (line ∷ lines) out = (block : List ℕ) × (rest : List ℕ) × IsBlock line block × AreBlocks IsBlock lines rest × (out ≡ block ++ rest)

-- what has been written of the next line's block: a front of a right one, or nothing
abbrev pub BeginsNext : BlockRule → List (List ℕ) → List ℕ → Type 0
BeginsNext IsBlock [] part = part ≡ []
BeginsNext IsBlock (line ∷ lines) part = (part ≡ []) ⊎ ((block : List ℕ) × (count : ℕ) × IsBlock line block × (part ≡ take count block))

-- right blocks of the first lines, and a front of a right block of the next
pub record BeginsBlocks (IsBlock : BlockRule) (lines : List (List ℕ)) (out : List ℕ) : Type 0 where
  pub done : List (List ℕ)
  pub rest : List (List ℕ)
  pub whole : List ℕ
  pub part : List ℕ
  pub lines_are : lines ≡ done ++ rest
  pub blocks : AreBlocks IsBlock done whole
  pub next : BeginsNext IsBlock rest part
  pub out_is : out ≡ whole ++ part

-- the sink has taken a right block for each line
abbrev pub WroteBlocks : SinkMeaning → SinkMeaning → BlockRule → List (List ℕ) → Type 0
WroteBlocks old new IsBlock lines = HasWritten (AreBlocks IsBlock lines) old new

abbrev pub WroteFront : SinkMeaning → SinkMeaning → BlockRule → List (List ℕ) → Type 0
WroteFront old new IsBlock lines = HasWritten (BeginsBlocks IsBlock lines) old new

-- the sink has taken a right block
abbrev pub WroteBlock : SinkMeaning → SinkMeaning → (List ℕ → Type 0) → Type 0
WroteBlock old new IsRight = HasWritten IsRight old new

-- the sink has taken a front of a right block
pub record WrotePart (old new : SinkMeaning) (IsRight : List ℕ → Type 0) : Type 0 where
  pub block : List ℕ
  pub is : IsRight block
  pub part : AppendedPart old new block

-- the sum of what is counted for each line
abbrev pub AreCounted : (List ℕ → ℕ → Type 0) → List (List ℕ) → ℕ → Type 0
AreCounted Counts [] sum = sum ≡ 0
AreCounted Counts (line ∷ lines) sum = (count : ℕ) × (rest : ℕ) × Counts line count × AreCounted Counts lines rest × (sum ≡ count + rest)
