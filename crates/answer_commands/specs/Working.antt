-- What reading a region, and a hierarchy where one is named, answers.
use Rattle.std.specs.Prelude.{ℕ, ◌⊎◌, List, Option}
use Rattle.plan_base.specs.{ShelfMeaning, IsLater, Caps}
use Rattle.mode_network.specs.NetworkLists.{NetworkLists}
use Rattle.hierarchy.specs.{HierarchyLists}
use Rattle.hierarchy_commands.specs.{IsFoundSound, IsNamedOutcome}
use Rattle.run_steps.specs.{Outcome, HasRegion, IsRegionOutcome}

-- the region was read, and then the hierarchy, where its file is named
pub record HasBoth (caps : Caps) (old new : ShelfMeaning) (region : List ℕ) (named : Option (List ℕ)) (n : NetworkLists) (h : Option HierarchyLists) : Type 0 where
  pub has : HasRegion caps old region n
  pub mid : ShelfMeaning
  pub later : IsLater old mid
  pub found : IsFoundSound mid new n named h

-- the region was read, and then no hierarchy was found that is sound for it
pub record LacksSound (caps : Caps) (old new : ShelfMeaning) (region : List ℕ) (named : Option (List ℕ)) (outcome : Outcome) : Type 0 where
  pub n : NetworkLists
  pub has : HasRegion caps old region n
  pub mid : ShelfMeaning
  pub later : IsLater old mid
  pub lacks : IsNamedOutcome mid new n named outcome

-- why they were not both read
abbrev pub IsBothOutcome : Caps → ShelfMeaning → ShelfMeaning → List ℕ → Option (List ℕ) → Outcome → Type 0
IsBothOutcome caps old new region named outcome = IsRegionOutcome caps old new region outcome ⊎ LacksSound caps old new region named outcome
