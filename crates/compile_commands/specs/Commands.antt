-- What the commands `compile` and `migrate` say of a run by its outcome.
use Rattle.std.specs.Prelude.{ℕ, List}
use Rattle.plan_base.specs.{Caps}
use Rattle.service_days.specs.DaysMeaning.{DaysMeaning}
use Rattle.region_file.specs.{Format}
use Rattle.run_steps.specs.{OnRegion, Saying, WritesText}
use Rattle.compile_commands.specs.{Maps.OnMap, Feeds.OnFeed, Builds.OnBuild, Outputs.IsRegionFile}

-- `compile` writes the region of a map and a feed over some days, in a format
abbrev pub SaysCompile : Caps → List ℕ → List ℕ → DaysMeaning → Format → Saying
SaysCompile caps map feed days format =
    OnMap caps map (λ objects. OnFeed caps feed (λ tables. OnBuild caps objects tables days (λ n. WritesText (IsRegionFile caps format n))))

-- `migrate` writes a region in another format
abbrev pub SaysMigrate : Caps → List ℕ → Format → Saying
SaysMigrate caps region format = OnRegion caps region (λ n. WritesText (IsRegionFile caps format n))
