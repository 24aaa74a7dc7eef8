-- What a run says that reads a region.
use Rattle.std.specs.Prelude.{◌≡◌, ℕ, ◌⊎◌, List}
use Rattle.plan_base.specs.{Caps, Kind, cap_of, full_cap_of}
use Rattle.mode_network.specs.{NetworkLists.NetworkLists, IsNetwork}
use Rattle.region_file.specs.{RegionFault, IsDecoded, IsNoRegion}
use Rattle.run_steps.specs.{declared.outcome.FileRole.TheVariants.Region, Sayings.Saying, Sayings.Ends, Sayings.OnFile}
pub use Rattle.run_steps.specs.declared.outcome.Outcome.TheVariants.{BadRegion}

-- the limits of the programs
abbrev pub AreFull : Caps → Type 0
AreFull caps = (kind : Kind) → cap_of caps kind ≡ full_cap_of kind

-- the bytes spell no network within the limits, and why is told
abbrev pub IsBadRegion : Caps → List ℕ → Saying
IsBadRegion caps bytes old new outcome = (fault : RegionFault) × IsNoRegion caps bytes fault × Ends (BadRegion fault) old new outcome

-- the bytes spell this network within the limits, and no other
pub record SpellThis (caps : Caps) (bytes : List ℕ) (n : NetworkLists) : Type 0 where
  pub decoded : IsDecoded caps bytes n
  pub only : (other : NetworkLists) → IsDecoded caps bytes other → other ≡ n

-- what a region's bytes spell: a network, which keeps the rules of networks; or none
abbrev pub OnNetwork : Caps → (NetworkLists → Saying) → List ℕ → Saying
OnNetwork caps rest bytes old new outcome =
    IsBadRegion caps bytes old new outcome ⊎ ((n : NetworkLists) × SpellThis caps bytes n × IsNetwork n × rest n old new outcome)

-- a region is read
abbrev pub OnRegion : Caps → List ℕ → (NetworkLists → Saying) → Saying
OnRegion caps name rest = OnFile Region name (OnNetwork caps rest)
