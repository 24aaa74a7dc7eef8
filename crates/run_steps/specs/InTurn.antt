-- What a run says that answers a file in turn: it reads it piece by piece, and writes the block of each line as soon as that has been read whole.
use Rattle.std.specs.Prelude.{◌≡◌, ℕ, ◌^◌, ◌<◌, ◌≤◌, ◌⊎◌, ⊤, List, [], ◌++◌, length, All, Some, None, unwrap_or}
use Rattle.plan_base.specs.{Rose, ShelfMeaning, IsLater, Told, SinkMeaning, Stays}
use Rattle.plain_texts.specs.{IsLine, lines_of, lines_text}
use Rattle.run_steps.specs.{Scene.Scene, Sayings.Saying, Sayings.Ends, Sayings.HasWritten, Sayings.IsAbsent, Sayings.most_bytes, QueryLines.queries_among, QueryLines.query_lines, Blocks.BlockRule, Blocks.AreBlocks, Blocks.BeginsBlocks, declared.outcome.FileRole.FileRole, declared.outcome.Outcome.TheVariants.Done, declared.outcome.Outcome.TheVariants.Missing, declared.outcome.Outcome.TheVariants.ReadFault, declared.outcome.Outcome.TheVariants.TooLong, declared.outcome.Outcome.TheVariants.WriteFault, declared.outcome.Outcome.TheVariants.OutOfMemory}

-- ---- what has been read

-- a text begins with these lines, each with its line feed, and then with this front of the next one
pub record IsReadTo (text : List ℕ) (lines : List (List ℕ)) (rest : List ℕ) : Type 0 where
  pub are_lines : All IsLine lines
  pub is_line : IsLine rest
  pub more : List ℕ
  pub text_is : text ≡ (lines_text lines ++ rest) ++ more

-- the file has been read so far; one that is absent is as an empty one
abbrev pub HasReadTo : ShelfMeaning → List ℕ → List (List ℕ) → List ℕ → Type 0
HasReadTo shelf name lines rest = Told shelf name (λ held. IsReadTo (unwrap_or held []) lines rest)

-- a line has not too many bytes
abbrev pub IsShort : List ℕ → Type 0
IsShort line = length line ≤ most_bytes

-- the file has been read to its end; it has these bytes, and no line is too long
pub record HasReadLines (shelf : ShelfMeaning) (name bytes : List ℕ) : Type 0 where
  pub file : Told shelf name (λ held. held ≡ Some bytes)
  pub short : All IsShort (lines_of bytes)

-- lines of the file that have been read whole: those whose line feeds have been read; or all of them, when the file has ended
abbrev pub AreWhole : ShelfMeaning → List ℕ → List (List ℕ) → Type 0
AreWhole shelf name lines =
    ((rest : List ℕ) × HasReadTo shelf name lines rest) ⊎ ((bytes : List ℕ) × HasReadLines shelf name bytes × (lines ≡ lines_of bytes))

-- such lines have been read, and what is right for their query lines was written
pub record WroteFor (AreRead : List (List ℕ) → Type 0) (IsOut : List (List ℕ) → List ℕ → Type 0) (before after : SinkMeaning) : Type 0 where
  pub lines : List (List ℕ)
  pub read : AreRead lines
  pub wrote : HasWritten (IsOut (queries_among lines)) before after

-- ---- how it ends

-- a file has fewer bytes
abbrev pub most_file_places : ℕ
most_file_places = 2 ^ 63

-- the line that begins behind these has too many bytes, or so many bytes have been read as no file has
abbrev pub IsEndless : List (List ℕ) → List ℕ → Type 0
IsEndless lines rest = (most_bytes < length rest) ⊎ (most_file_places ≤ length (lines_text lines ++ rest))

-- a read failed; or one of a shelf that does not tell missed the file, behind what had been read of it
abbrev pub IsLost : ShelfMeaning → ShelfMeaning → Type 0
IsLost old new = Rose old.faults new.faults ⊎ (Rose old.misses new.misses × (old.files ≡ None))

-- why the file was not answered to its end; the right blocks of all lines that were read whole are written, or those of the first of them and a front of the next one
abbrev pub StopsInTurn : FileRole → List ℕ → BlockRule → Saying
StopsInTurn file name IsBlock old new (Missing other) = (other ≡ file) × IsAbsent old.shelf new.shelf name × Stays old.out new.out
StopsInTurn file name IsBlock old new (ReadFault other) =
    (other ≡ file) × IsLost old.shelf new.shelf × WroteFor (λ lines. (rest : List ℕ) × HasReadTo old.shelf name lines rest) (AreBlocks IsBlock) old.out new.out
StopsInTurn file name IsBlock old new (TooLong other) =
    (other ≡ file) × WroteFor (λ lines. (rest : List ℕ) × HasReadTo old.shelf name lines rest × IsEndless lines rest) (AreBlocks IsBlock) old.out new.out
StopsInTurn file name IsBlock old new WriteFault = Rose old.out.faults new.out.faults × WroteFor (AreWhole old.shelf name) (BeginsBlocks IsBlock) old.out new.out
StopsInTurn file name IsBlock old new OutOfMemory = WroteFor (AreWhole old.shelf name) (BeginsBlocks IsBlock) old.out new.out
StopsInTurn file name IsBlock old new _ = ⊥

-- the file was read to its end, and a right block of each query line is written, in order
pub record HasAnswered (IsBlock : BlockRule) (name bytes : List ℕ) (old new : Scene ⊤) : Type 0 where
  pub later : IsLater old.shelf new.shelf
  pub faults : old.out.faults ≤ new.out.faults
  pub file : HasReadLines old.shelf name bytes
  pub wrote : HasWritten (AreBlocks IsBlock (query_lines bytes)) old.out new.out

-- a file is answered in turn: up to where the run stops, or to its end, and then the rest says this of its bytes
abbrev pub InTurn : FileRole → List ℕ → BlockRule → (List ℕ → Saying) → Saying
InTurn file name IsBlock rest old new outcome =
    StopsInTurn file name IsBlock old new outcome
    ⊎ ((bytes : List ℕ) × (mid : Scene ⊤) × HasAnswered IsBlock name bytes old mid × rest bytes mid new outcome)

-- a file is answered in turn, and that is all
abbrev pub AnswersFile : FileRole → List ℕ → BlockRule → Saying
AnswersFile file name IsBlock = InTurn file name IsBlock (λ bytes. Ends Done)
