-- What reading a hierarchy answers: what its file and its bytes spell.
use Rattle.std.specs.Prelude.{◌≡◌, ℕ, ◌⊎◌, List, Option, Some, None}
use Rattle.plan_base.specs.{ShelfMeaning, IsLater, HasRead}
use Rattle.mode_network.specs.NetworkLists.{NetworkLists}
use Rattle.hierarchy.specs.{HierarchyLists, IsSound, IsFirstBroken}
use Rattle.hierarchy_file.specs.{HFileFault, IsNoHierarchy, SpellHierarchy}
use Rattle.hierarchy_file.specs.declared.fault.HFileFault.TheVariants as no
use Rattle.run_steps.specs.{Hierarchy, Outcome, BadHierarchy, Unsound, OutOfMemory, IsUnread, most_of}

-- the bytes spell a hierarchy that is sound for the network
abbrev pub AreSound : NetworkLists → List ℕ → HierarchyLists → Type 0
AreSound n bytes h = SpellHierarchy bytes h × IsSound n h

-- a hierarchy with these lists is sound
abbrev pub IsSoundOf : NetworkLists → HierarchyLists → HierarchyLists → Type 0
IsSoundOf n lists h = (h ≡ lists) × IsSound n h

-- why there is none with these lists
abbrev pub IsUnsoundOf : NetworkLists → HierarchyLists → Outcome → Type 0
IsUnsoundOf n lists (Unsound clause at by) = IsFirstBroken n lists clause at by
IsUnsoundOf n lists OutOfMemory = Unit {0}
IsUnsoundOf n lists _ = ⊥

-- how a run ends where a hierarchy is refused
abbrev pub hierarchy_outcome : HFileFault → Outcome
hierarchy_outcome no.BadHead = BadHierarchy no.BadHead
hierarchy_outcome (no.BadRecord at) = BadHierarchy (no.BadRecord at)
hierarchy_outcome (no.Trailing at) = BadHierarchy (no.Trailing at)
hierarchy_outcome no.OutOfMemory = OutOfMemory

-- why the bytes spell none
abbrev pub AreUnsound : NetworkLists → List ℕ → Outcome → Type 0
AreUnsound n bytes (BadHierarchy fault) = IsNoHierarchy bytes fault
AreUnsound n bytes (Unsound clause at by) = (h : HierarchyLists) × SpellHierarchy bytes h × IsFirstBroken n h clause at by
AreUnsound n bytes OutOfMemory = Unit {0}
AreUnsound n bytes _ = ⊥

-- the file was read, and spells a hierarchy that is sound for the network
pub record HasSound (old new : ShelfMeaning) (n : NetworkLists) (name : List ℕ) (h : HierarchyLists) : Type 0 where
  pub bytes : List ℕ
  pub file : HasRead old name (most_of Hierarchy) bytes
  pub later : IsLater old new
  pub sound : AreSound n bytes h

-- the file was read, and spells none
pub record HasUnsound (old new : ShelfMeaning) (n : NetworkLists) (name : List ℕ) (outcome : Outcome) : Type 0 where
  pub bytes : List ℕ
  pub file : HasRead old name (most_of Hierarchy) bytes
  pub later : IsLater old new
  pub unsound : AreUnsound n bytes outcome

-- why no hierarchy was found that is sound
abbrev pub IsHierarchyOutcome : ShelfMeaning → ShelfMeaning → NetworkLists → List ℕ → Outcome → Type 0
IsHierarchyOutcome old new n name outcome = IsUnread old new name Hierarchy outcome ⊎ HasUnsound old new n name outcome

-- a hierarchy was found that is sound, where its file is named; where none is, nothing is read
abbrev pub IsFoundSound : ShelfMeaning → ShelfMeaning → NetworkLists → Option (List ℕ) → Option HierarchyLists → Type 0
IsFoundSound old new n None None = new ≡ old
IsFoundSound old new n None (Some h) = ⊥
IsFoundSound old new n (Some name) None = ⊥
IsFoundSound old new n (Some name) (Some h) = HasSound old new n name h

-- why none was found, though its file is named
abbrev pub IsNamedOutcome : ShelfMeaning → ShelfMeaning → NetworkLists → Option (List ℕ) → Outcome → Type 0
IsNamedOutcome old new n None outcome = ⊥
IsNamedOutcome old new n (Some name) outcome = IsHierarchyOutcome old new n name outcome
