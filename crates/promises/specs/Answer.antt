-- What `modeplan answer REGION QUERIES` prints: for each query line, in order, a block that tells what is
-- right.
use Rattle.std.specs.Prelude.{◌≡◌, ℕ, ◌⊎◌, List, [], ◌∷◌, codes, Option, Some, None}
use Rattle.std.specs.List.{concat}
use Rattle.plan_base.specs.{Caps}
use Rattle.command_line.specs.{IsPlainWord}
use Rattle.mode_network.specs.{NetworkLists.NetworkLists, Route, IsNetwork}
use Rattle.region_file.specs.{IsRegion, AreSpelling}
use Rattle.journey.specs.{Journey, Nothing, Refused, QueryFault, IsRefused, Asked, Asks, IsBlockText}
use Rattle.run_steps.specs.{Files, query_lines, SpellThis}
use Rattle.planner_core.specs.{IsOutcome}
use Rattle.promises.specs.{Right.IsRight, Runs.Wrote}

-- ---- the words

-- the program's name, which may be any, `answer`, and the names of two files; neither looks like an option
pub record AreWords (words : List (List ℕ)) (region queries : List ℕ) : Type 0 where
  pub program : List ℕ
  pub are : words ≡ program ∷ codes "answer" ∷ region ∷ queries ∷ []
  pub region_plain : IsPlainWord region
  pub queries_plain : IsPlainWord queries

-- ---- how a network and what is told are spelled; `Asks` says it of what is asked

-- the bytes of a region spell the network
pub record SpellNetwork (bytes : List ℕ) (n : NetworkLists) : Type 0 where
  pub region : IsRegion n
  pub spelled : AreSpelling bytes n

-- the block of a line tells this journey, or that there is none
abbrev pub SpellsTold : NetworkLists → List ℕ → Option Route → List ℕ → Type 0
SpellsTold n line (Some journey) block = IsBlockText n line (Journey journey) block
SpellsTold n line None block = IsBlockText n line Nothing block

-- ---- what is printed

-- whatever the line asks, its block tells what is right
abbrev pub TellsRight : NetworkLists → List ℕ → List ℕ → Type 0
TellsRight n line block =
    (asked : Asked) → Asks n line asked → (told : Option Route) × IsRight n asked told × SpellsTold n line told block

-- each line has a block of which this is so, in order
abbrev pub EachBlock : (List ℕ → List ℕ → Type 0) → List (List ℕ) → List (List ℕ) → Type 0
EachBlock P [] [] = Unit {0}
EachBlock P [] (block ∷ blocks) = ⊥
EachBlock P (line ∷ lines) [] = ⊥
EachBlock P (line ∷ lines) (block ∷ blocks) = P line block × EachBlock P lines blocks

-- The file of the region spells a network, and what is printed are blocks for the query lines of the other
-- file, each of which tells what is right.
pub record IsTold (files : Files) (region queries out : List ℕ) : Type 0 where
  pub network : NetworkLists
  pub region_bytes : List ℕ
  pub region_file : files region ≡ Some region_bytes
  pub spells : SpellNetwork region_bytes network
  pub queries_bytes : List ℕ
  pub queries_file : files queries ≡ Some queries_bytes
  pub blocks : List (List ℕ)
  pub right : EachBlock (TellsRight network) (query_lines queries_bytes) blocks
  pub out_is : out ≡ concat blocks

-- ---- and besides

-- the line asks nothing, and its first fault is told
pub record TellsFault (n : NetworkLists) (line block : List ℕ) : Type 0 where
  pub fault : QueryFault
  pub refused : IsRefused n line fault
  pub told : IsBlockText n line (Refused fault) block

-- the line asks something; or its first fault is told
abbrev pub AsksOrTellsFault : NetworkLists → List ℕ → List ℕ → Type 0
AsksOrTellsFault n line block = ((asked : Asked) × Asks n line asked) ⊎ TellsFault n line block

-- That is printed. Besides, no other network within the limits is spelled, this one keeps the rules of networks,
-- and the first fault of each line that asks nothing is told.
pub record IsPrinted (caps : Caps) (files : Files) (region queries out : List ℕ) : Type 0 where
  pub told : IsTold files region queries out
  pub this_one : SpellThis caps told.region_bytes told.network
  pub rules : IsNetwork told.network
  pub refused : EachBlock (AsksOrTellsFault told.network) (query_lines told.queries_bytes) told.blocks

-- a run with these words that does all of its work has printed that
abbrev pub AnswerPrintsRightBlocks : Type 0
AnswerPrintsRightBlocks = (caps : Caps) (words : List (List ℕ)) (region queries : List ℕ)
    → AreWords words region queries → (files : Files) (out : List ℕ) → Wrote (IsOutcome caps words) files out
    → IsPrinted caps files region queries out
