-- What a run says that reads a hierarchy, and what `check` and `contract` say of one by its outcome.
use Rattle.std.specs.Prelude.{◌≡◌, ℕ, ◌⊎◌, List, Option, Some, None, codes}
use Rattle.plan_base.specs.{Caps}
use Rattle.plain_texts.specs.{with_feed}
use Rattle.mode_network.specs.NetworkLists.{NetworkLists}
use Rattle.hierarchy.specs.{HierarchyLists, IsSound, IsFirstBroken}
use Rattle.hierarchy_file.specs.{HFileFault, IsNoHierarchy, SpellHierarchy}
use Rattle.contractor.specs.{IsContractedTo}
use Rattle.run_steps.specs.{Hierarchy, BadHierarchy, Unsound, OnRegion, Saying, Ends, OnFile, WritesText}

-- the hierarchy is not sound for the network: this is the first clause that fails, at its least place
abbrev pub IsUnsound : NetworkLists → HierarchyLists → Saying
IsUnsound n h old new outcome =
    (clause : ℕ) × (at : ℕ) × (by : ℕ) × IsFirstBroken n h clause at by × Ends (Unsound clause at by) old new outcome

-- the bytes spell no hierarchy, and why is told
abbrev pub IsBadHierarchy : List ℕ → Saying
IsBadHierarchy bytes old new outcome = (fault : HFileFault) × IsNoHierarchy bytes fault × Ends (BadHierarchy fault) old new outcome

-- what a hierarchy's bytes spell: none, or one that is sound for the network, or not
abbrev pub OnSound : NetworkLists → (HierarchyLists → Saying) → List ℕ → Saying
OnSound n rest bytes old new outcome =
    IsBadHierarchy bytes old new outcome
    ⊎ ((h : HierarchyLists) × SpellHierarchy bytes h × (IsUnsound n h old new outcome ⊎ (IsSound n h × rest h old new outcome)))

-- a hierarchy is read and checked
abbrev pub OnHierarchy : NetworkLists → List ℕ → (HierarchyLists → Saying) → Saying
OnHierarchy n name rest = OnFile Hierarchy name (OnSound n rest)

-- a hierarchy is read and checked at once, where its file is named
abbrev pub OnHierarchyIfNamed : NetworkLists → Option (List ℕ) → (Option HierarchyLists → Saying) → Saying
OnHierarchyIfNamed n None rest = rest None
OnHierarchyIfNamed n (Some name) rest = OnHierarchy n name (λ h. rest (Some h))

-- `check` writes `sound`, where the hierarchy of a file is
abbrev pub SaysCheck : Caps → List ℕ → List ℕ → Saying
SaysCheck caps region hierarchy = OnRegion caps region (λ n. OnHierarchy n hierarchy (λ h. WritesText (λ out. out ≡ with_feed (codes "sound"))))

-- Written is the one spelling of a hierarchy that contraction makes of the network, with so many nodes kept.
pub record IsContraction (n : NetworkLists) (keep : ℕ) (out : List ℕ) : Type 0 where
  pub hierarchy : HierarchyLists
  pub contracted : IsContractedTo n keep hierarchy
  pub spells : SpellHierarchy out hierarchy

-- `contract` writes a hierarchy of the region's road layers
abbrev pub SaysContract : Caps → List ℕ → ℕ → Saying
SaysContract caps region keep = OnRegion caps region (λ n. WritesText (IsContraction n keep))
