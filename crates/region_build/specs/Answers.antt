-- What the build of a region answers.
use Rattle.std.specs.Prelude.{◌≡◌, ℕ, List, Option, None, Some, option_map}
use Rattle.plan_base.specs.{Caps}
use Rattle.service_days.specs.DaysMeaning.{DaysMeaning}
use Rattle.opl_reader.specs.ObjectLists.{ObjectLists}
use Rattle.gtfs_tables.specs.FeedLists.{FeedLists}
use Rattle.mode_network.specs.NetworkLists.{NetworkLists}
use Rattle.region_build.specs.{Compiled.IsDraft, Compiled.kind_over, Copies.first_back, Sources.SourceLists, Tallies.tallies_of, declared.stops.StopEntry.StopEntry, declared.tallies.Counts.Counts}
pub use Rattle.region_build.specs.{declared.faults.BuildFault.BuildFault, declared.faults.BuildFault.TheVariants.TimeGoesBack, declared.faults.BuildFault.TheVariants.TooMany, declared.faults.BuildFault.TheVariants.OutOfMemory}

-- this fault, or else the other
abbrev pub or_else : Option BuildFault → Option BuildFault → Option BuildFault
or_else (Some fault) other = Some fault
or_else None other = other

-- there is too much of something, or the times of the trip in a row go back
abbrev pub fault_by : Caps → Counts → Option ℕ → Option BuildFault
fault_by caps counts back = or_else (option_map TooMany (kind_over caps counts)) (option_map TimeGoesBack back)

-- the first fault of what was drafted
abbrev pub draft_fault : Caps → List SourceLists → NetworkLists → Option BuildFault
draft_fault caps sources n = fault_by caps (tallies_of n) (first_back sources)

-- the network of a map and a feed over some days, which has no fault
pub record IsCompiled (caps : Caps) (objects : ObjectLists) (feed : FeedLists) (days : DaysMeaning) (n : NetworkLists) : Type 0 where
  pub entries : List StopEntry
  pub sources : List SourceLists
  pub draft : IsDraft objects feed days entries sources n
  pub faultless : draft_fault caps sources n ≡ None

-- what a map and a feed give over some days has this as its first fault
pub record HasFault (caps : Caps) (objects : ObjectLists) (feed : FeedLists) (days : DaysMeaning) (fault : BuildFault) : Type 0 where
  pub lists : NetworkLists
  pub entries : List StopEntry
  pub sources : List SourceLists
  pub draft : IsDraft objects feed days entries sources lists
  pub first : draft_fault caps sources lists ≡ Some fault

-- a refusal has its cause; want of memory needs none
abbrev pub IsFaultOf : Caps → ObjectLists → FeedLists → DaysMeaning → BuildFault → Type 0
IsFaultOf caps objects feed days OutOfMemory = Unit {0}
IsFaultOf caps objects feed days (TimeGoesBack row) = HasFault caps objects feed days (TimeGoesBack row)
IsFaultOf caps objects feed days (TooMany kind) = HasFault caps objects feed days (TooMany kind)
