-- When a run does all of its work: its files are there and without fault, and nothing failed.
use Rattle.std.specs.Prelude.{◌≡◌, ℕ, ◌<◌, ◌≤◌, ⊤, List, length, All, Option, Some}
use Rattle.plain_texts.specs.{lines_of}
use Rattle.plan_base.specs.{Rose, Caps}
use Rattle.mode_network.specs.NetworkLists.{NetworkLists}
use Rattle.region_file.specs.{IsDecoded}
use Rattle.run_steps.specs.{declared.outcome.FileRole.FileRole, declared.outcome.FileRole.TheVariants.Region, declared.outcome.Outcome.Outcome, declared.outcome.Outcome.TheVariants.Done, declared.outcome.Outcome.TheVariants.OutOfMemory, Scene.Scene, Sayings.Saying, Sayings.most_of, InTurn.IsShort, InTurn.most_file_places}

-- what a shelf that tells holds under each name
abbrev pub Files : Type 0
Files = List ℕ → Option (List ℕ)

-- a file of this name is there; it has not too many bytes for its role, and they have P
pub record IsHeld (role : FileRole) (files : Files) (name : List ℕ) (P : List ℕ → Type 0) : Type 0 where
  pub bytes : List ℕ
  pub held : files name ≡ Some bytes
  pub within : length bytes ≤ most_of role
  pub fine : P bytes

-- a file of this name is there, and no line of it has too many bytes; whole it may have as many as have a place
pub record AreLinesHeld (files : Files) (name : List ℕ) : Type 0 where
  pub bytes : List ℕ
  pub held : files name ≡ Some bytes
  pub short : All IsShort (lines_of bytes)
  pub counted : length bytes < most_file_places

-- the bytes spell a network within the limits that has P
abbrev pub SpellsNetwork : Caps → (NetworkLists → Type 0) → List ℕ → Type 0
SpellsNetwork caps P bytes = (n : NetworkLists) × IsDecoded caps bytes n × P n

-- a region of this name is there, which spells a network within the limits that has P
abbrev pub IsRegionHeld : Caps → Files → List ℕ → (NetworkLists → Type 0) → Type 0
IsRegionHeld caps files region P = IsHeld Region files region (SpellsNetwork caps P)

abbrev pub IsDoneOrMemory : Outcome → Type 0
IsDoneOrMemory Done = Unit {0}
IsDoneOrMemory OutOfMemory = Unit {0}
IsDoneOrMemory _ = ⊥

-- no count of faults rose
pub record IsQuiet (old new : Scene ⊤) : Type 0 where
  pub shelf : Rose old.shelf.faults new.shelf.faults → ⊥
  pub out : Rose old.out.faults new.out.faults → ⊥

-- where the shelf tells these files, they have P, and no count of faults rose, a run of which this is said has done all of its work, unless memory ran out
abbrev pub Completes : Files → Type 0 → Saying → Type 0
Completes files P S = P → (old new : Scene ⊤) (outcome : Outcome) → old.shelf.files ≡ Some files → IsQuiet old new → S old new outcome → IsDoneOrMemory outcome
