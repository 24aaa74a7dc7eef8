-- What a run says that builds the region of a map and a feed.
use Rattle.std.specs.Prelude.{◌⊎◌}
use Rattle.plan_base.specs.{Caps}
use Rattle.service_days.specs.DaysMeaning.{DaysMeaning}
use Rattle.opl_reader.specs.ObjectLists.{ObjectLists}
use Rattle.gtfs_tables.specs.FeedLists.{FeedLists}
use Rattle.mode_network.specs.NetworkLists.{NetworkLists}
use Rattle.region_build.specs.{HasFault, IsCompiled, BuildFault}
use Rattle.run_steps.specs.{BadFeed, OutOfMemory, Saying, Ends}
use Rattle.run_steps.specs.declared.outcome.SourceFault.TheVariants as source

-- what a map and a feed give over some days: a network, or their first fault; or memory runs out before it is known
abbrev pub OnBuild : Caps → ObjectLists → FeedLists → DaysMeaning → (NetworkLists → Saying) → Saying
OnBuild caps objects feed days rest old new outcome =
    ((fault : BuildFault) × HasFault caps objects feed days fault × Ends (BadFeed (source.Build fault)) old new outcome)
    ⊎ (Ends OutOfMemory old new outcome ⊎ ((n : NetworkLists) × IsCompiled caps objects feed days n × rest n old new outcome))
