-- What the steps of a run answer: what was read, why it was not, and why a text was not written.
use Rattle.std.specs.Prelude.{ℕ, List, Option, None, Some}
use Rattle.plan_base.specs.{Rose, ShelfMeaning, HasRead, SinkMeaning, AppendedPart, Caps, ReadFault as ReadCause}
use Rattle.plan_base.specs.declared.reading.ReadFault.TheVariants as cause
use Rattle.mode_network.specs.{NetworkLists.NetworkLists, IsNetwork}
use Rattle.region_file.specs.{RegionFault, IsNoRegion}
use Rattle.region_file.specs.declared.fault.RegionFault.TheVariants as no
use Rattle.run_steps.specs.{declared.outcome.FileRole.FileRole, declared.outcome.FileRole.TheVariants.Region, declared.outcome.Outcome.Outcome, declared.outcome.Outcome.TheVariants.Missing, declared.outcome.Outcome.TheVariants.ReadFault, declared.outcome.Outcome.TheVariants.TooLong, declared.outcome.Outcome.TheVariants.WriteFault, declared.outcome.Outcome.TheVariants.BadRegion, declared.outcome.Outcome.TheVariants.OutOfMemory, Regions.SpellThis, Sayings.most_of, Sayings.IsAbsent, Sayings.IsUnread}

-- how a run ends where a file can't be read
abbrev pub outcome_of : FileRole → ReadCause → Outcome
outcome_of file cause.Missing = Missing file
outcome_of file cause.Failed = ReadFault file
outcome_of file (cause.TooLong cap) = TooLong file
outcome_of file cause.OutOfMemory = OutOfMemory

-- a file that may be absent was read, or is absent
abbrev pub IsFound : ShelfMeaning → ShelfMeaning → List ℕ → FileRole → Option (List ℕ) → Type 0
IsFound old new name file (Some bytes) = HasRead old name (most_of file) bytes
IsFound old new name file None = IsAbsent old new name

-- the region file was read, and spells this network within the limits, which keeps the rules of networks
pub record HasRegion (caps : Caps) (shelf : ShelfMeaning) (name : List ℕ) (n : NetworkLists) : Type 0 where
  pub bytes : List ℕ
  pub file : HasRead shelf name (most_of Region) bytes
  pub spells : SpellThis caps bytes n
  pub rules : IsNetwork n

-- the region file was read, and spells none, for this reason
pub record HasBadRegion (caps : Caps) (shelf : ShelfMeaning) (name : List ℕ) (fault : RegionFault) : Type 0 where
  pub bytes : List ℕ
  pub file : HasRead shelf name (most_of Region) bytes
  pub why : IsNoRegion caps bytes fault

-- how a run ends where a region is refused
abbrev pub region_outcome : RegionFault → Outcome
region_outcome no.BadHead = BadRegion no.BadHead
region_outcome (no.BadRecord at) = BadRegion (no.BadRecord at)
region_outcome (no.Network broken) = BadRegion (no.Network broken)
region_outcome (no.Trailing at) = BadRegion (no.Trailing at)
region_outcome no.OutOfMemory = OutOfMemory

-- why no region was read
abbrev pub IsRegionOutcome : Caps → ShelfMeaning → ShelfMeaning → List ℕ → Outcome → Type 0
IsRegionOutcome caps old new name (BadRegion fault) = HasBadRegion caps old name fault
IsRegionOutcome caps old new name outcome = IsUnread old new name Region outcome

-- why a text was not written whole
abbrev pub IsTextOutcome : SinkMeaning → SinkMeaning → List ℕ → Outcome → Type 0
IsTextOutcome before after text WriteFault = Rose before.faults after.faults × AppendedPart before after text
IsTextOutcome before after text _ = ⊥
