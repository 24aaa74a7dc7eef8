-- What can be done: the files that a command names are there and without fault.
use Rattle.std.specs.Prelude.{ℕ, List, Option, Some, None}
use Rattle.plan_base.specs.{Caps}
use Rattle.mode_network.specs.NetworkLists.{NetworkLists}
use Rattle.hierarchy.specs.{HierarchyLists, IsSound}
use Rattle.hierarchy_file.specs.{SpellHierarchy}
use Rattle.run_steps.specs.declared.outcome.FileRole.TheVariants as role
use Rattle.run_steps.specs.{Files, IsHeld, IsRegionHeld, Completes}
use Rattle.hierarchy_commands.specs.Commands.{SaysCheck, SaysContract}

-- the bytes spell a hierarchy that is sound for the network and has P
abbrev pub SpellsSound : NetworkLists → (HierarchyLists → Type 0) → List ℕ → Type 0
SpellsSound n P bytes = (h : HierarchyLists) × SpellHierarchy bytes h × IsSound n h × P h

-- a hierarchy that is sound and has P is there, where its file is named
abbrev pub IsSoundIfNamed : Files → NetworkLists → Option (List ℕ) → (Option HierarchyLists → Type 0) → Type 0
IsSoundIfNamed files n None P = P None
IsSoundIfNamed files n (Some name) P = IsHeld role.Hierarchy files name (SpellsSound n (λ h. P (Some h)))

abbrev pub CanCheck : Caps → Files → List ℕ → List ℕ → Type 0
CanCheck caps files region hierarchy = IsRegionHeld caps files region (λ n. IsHeld role.Hierarchy files hierarchy (SpellsSound n (λ h. Unit {0})))

abbrev pub CanContract : Caps → Files → List ℕ → ℕ → Type 0
CanContract caps files region keep = IsRegionHeld caps files region (λ n. Unit {0})

-- where that can be done which is asked for, and no count of faults rose, all of it is done, unless memory ran out
abbrev pub CheckCompletes : Type 0
CheckCompletes = (caps : Caps) (files : Files) (region hierarchy : List ℕ) → Completes files (CanCheck caps files region hierarchy) (SaysCheck caps region hierarchy)

abbrev pub ContractCompletes : Type 0
ContractCompletes = (caps : Caps) (files : Files) (region : List ℕ) (keep : ℕ) → Completes files (CanContract caps files region keep) (SaysContract caps region keep)
