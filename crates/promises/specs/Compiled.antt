-- What a map and a feed give over some days is one thing.
use Rattle.std.specs.Prelude.{◌≡◌, None, Result, Ok, Err}
use Rattle.plan_base.specs.{Caps}
use Rattle.service_days.specs.DaysMeaning.{DaysMeaning}
use Rattle.opl_reader.specs.{AreObjects, ObjectLists.ObjectLists}
use Rattle.gtfs_tables.specs.{FeedFiles, feed_of, IsFeed, FeedLists.FeedLists}
use Rattle.mode_network.specs.{NetworkLists.NetworkLists, first_fault}
use Rattle.region_build.specs.{BuildFault, HasFault, IsCompiled}

-- a region, which breaks no rule of networks; or the first fault
abbrev pub IsBuilt : Caps → ObjectLists → FeedLists → DaysMeaning → Result NetworkLists BuildFault → Type 0
IsBuilt caps objects feed days (Ok n) = IsCompiled caps objects feed days n × (first_fault caps n ≡ None)
IsBuilt caps objects feed days (Err fault) = HasFault caps objects feed days fault

-- The objects of a map, and the feed that some files give, are over some days one region or one fault, and
-- never both.
abbrev pub CompiledIsUnique : Type 0
CompiledIsUnique = (caps : Caps) (objects : ObjectLists) → AreObjects objects
    → (files : FeedFiles) (feed : FeedLists) → feed_of caps files ≡ Ok feed → IsFeed feed
    → (days : DaysMeaning) (one other : Result NetworkLists BuildFault)
    → IsBuilt caps objects feed days one → IsBuilt caps objects feed days other → one ≡ other
