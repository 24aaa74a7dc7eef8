-- How far a file is answered, step by step, and why it goes no further.
use Rattle.std.specs.Prelude.{◌≡◌, ℕ, ◌+◌, ◌<◌, ◌≤◌, ⊤, List, [], ◌∷◌, ◌++◌, length, All, Some, if◌then◌else◌, ◌==◌}
use Rattle.plan_base.specs.{Rose, read_fault_of, ReadFault as ReadCause, ShelfError, IsLater, Told, SinkMeaning, Stays}
use Rattle.plan_base.specs.declared.reading.ReadFault.TheVariants as cause
use Rattle.plain_texts.specs.{IsLine, lines_text}
use Rattle.run_steps.specs.{Scene.Scene, Sayings.most_bytes, QueryLines.queries_among, Blocks.BlockRule, Blocks.AreBlocks, Blocks.BeginsBlocks, Blocks.WroteBlocks, Blocks.AreCounted, inside.BlockCauses.IsBlocksOutcome, InTurn.HasReadTo, InTurn.IsReadTo, InTurn.IsShort, InTurn.WroteFor, declared.outcome.FileRole.FileRole, declared.outcome.Outcome.Outcome, declared.outcome.Outcome.TheVariants.TooLong, declared.outcome.Outcome.TheVariants.WriteFault, declared.outcome.Outcome.TheVariants.OutOfMemory}

-- What is done when more of a file is asked for: it was read up to this place, and the right blocks of all query lines that were read whole stand in the output.
pub record IsUpToDate (IsBlock : BlockRule) (name : List ℕ) (place : ℕ) (first now : Scene ⊤) : Type 0 where
  pub later : IsLater first.shelf now.shelf
  pub faults : first.out.faults ≤ now.out.faults
  pub lines : List (List ℕ)
  pub rest : List ℕ
  pub read : HasReadTo first.shelf name lines rest
  pub place_is : place ≡ length (lines_text lines ++ rest)
  pub wrote : WroteBlocks first.out now.out IsBlock (queries_among lines)

-- why a file can't be read on from a place; it is missing only where nothing was read of it before
abbrev pub fault_at : ℕ → ShelfError → ReadCause
fault_at place error = if place == 0 then read_fault_of error else cause.Failed

-- the first lines of a text were answered, and this stands behind them
pub record AreAnswered (IsBlock : BlockRule) (Counts : List ℕ → ℕ → Type 0) (before after : SinkMeaning) (text behind : List ℕ) (count : ℕ) : Type 0 where
  pub lines : List (List ℕ)
  pub are_lines : All IsLine lines
  pub short : All IsShort lines
  pub text_is : text ≡ lines_text lines ++ behind
  pub wrote : WroteBlocks before after IsBlock (queries_among lines)
  pub counted : AreCounted Counts (queries_among lines) count

-- what is kept of a line that has not been read whole
abbrev pub IsBegun : List ℕ → Type 0
IsBegun rest = IsLine rest × IsShort rest

-- why the lines that end in a text were not all answered, or what stands behind them was not kept
abbrev pub IsPieceOutcome : FileRole → BlockRule → SinkMeaning → SinkMeaning → List ℕ → Outcome → Type 0
IsPieceOutcome file IsBlock before after text (TooLong other) =
    (other ≡ file) × WroteFor (λ lines. (rest : List ℕ) × IsReadTo text lines rest × (most_bytes < length rest)) (AreBlocks IsBlock) before after
IsPieceOutcome file IsBlock before after text WriteFault =
    Rose before.faults after.faults × WroteFor (λ lines. (rest : List ℕ) × IsReadTo text lines rest) (BeginsBlocks IsBlock) before after
IsPieceOutcome file IsBlock before after text OutOfMemory = WroteFor (λ lines. (rest : List ℕ) × IsReadTo text lines rest) (BeginsBlocks IsBlock) before after
IsPieceOutcome file IsBlock before after text _ = ⊥

-- why no more was kept of a line
abbrev pub IsKeepOutcome : FileRole → List ℕ → Outcome → Type 0
IsKeepOutcome file line (TooLong other) = (other ≡ file) × (most_bytes < length line)
IsKeepOutcome file line OutOfMemory = Unit {0}
IsKeepOutcome file line _ = ⊥

-- why a line that was read whole was not answered
abbrev pub IsLineOutcome : FileRole → BlockRule → SinkMeaning → SinkMeaning → List ℕ → Outcome → Type 0
IsLineOutcome file IsBlock before after line (TooLong other) = (other ≡ file) × (most_bytes < length line) × Stays before after
IsLineOutcome file IsBlock before after line outcome = IsBlocksOutcome before after IsBlock (queries_among (line ∷ [])) outcome

-- what is counted for these lines came to a sum
abbrev pub IsSumWith : (List ℕ → ℕ → Type 0) → List (List ℕ) → ℕ → ℕ → Type 0
IsSumWith Counts lines old new = (count : ℕ) × AreCounted Counts lines count × (new ≡ old + count)

-- the file was read to its end, and the lines that end in a line feed were answered
pub record AreEnded (IsBlock : BlockRule) (Counts : List ℕ → ℕ → Type 0) (name : List ℕ) (first now : Scene ⊤) (rest : List ℕ) (count : ℕ) : Type 0 where
  pub bytes : List ℕ
  pub later : IsLater first.shelf now.shelf
  pub faults : first.out.faults ≤ now.out.faults
  pub file : Told first.shelf name (λ held. held ≡ Some bytes)
  pub answered : AreAnswered IsBlock Counts first.out now.out bytes rest count
  pub begun : IsBegun rest
