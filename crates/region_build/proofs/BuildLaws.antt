-- What a map and a feed give has a fault, or is a network that keeps all rules.
use Rattle.plan_base.proofs.Common.{◌≡◌, List, ◌++◌, length, map, None, Some, refl, sym, ap, subst, ◌∙◌}
use Rattle.plan_base.specs.{Caps}
use Rattle.service_days.specs.{AreDays, DaysMeaning.DaysMeaning}
use Rattle.opl_reader.specs.{AreObjects, ObjectLists.ObjectLists}
use Rattle.gtfs_tables.specs.{FeedLists.FeedLists, IsFeed}
use Rattle.mode_network.specs.{NetworkLists.NetworkLists, AreParts, first_fault, Arc, Node}
use Rattle.region_build.specs.{HasFault, IsCompiled, IsFaultOf, draft_fault, fault_by, AreLists, IsDraft, expanded, AreTripSources, SourceLists, stop_number, IsTally, tallies_of, BuildFault, TimeGoesBack, TooMany, OutOfMemory, StopEntry, Counts, Tally}
use Rattle.region_build.proofs.{KeepLaws.draft_keeps, PartLaws.lists_are_parts, TallyLaws.calls_counted, TallyLaws.trips_counted}

module _ (caps : Caps) {objects : ObjectLists} {feed : FeedLists} {days : DaysMeaning} {entries : List StopEntry} {sources : List SourceLists} {roads stops switches : List Node} {arcs links : List Arc} {tally : Tally}
    (lists : AreLists objects feed entries roads stops switches arcs links) (said : AreTripSources feed days sources) (is : IsTally sources tally) where
  abbrev drafted : NetworkLists
  drafted = record {
    days = days;
    roads = roads;
    stop_names = map (λ (entry : StopEntry). entry.name) entries;
    stops = stops;
    switches = switches;
    arcs = arcs;
    links = links;
    trips = expanded (stop_number entries) sources;
  }

  draft : IsDraft objects feed days entries sources drafted
  draft = record { days_are = refl; lists = lists; names = refl; said = said; trips = refl }

  abbrev counts : Counts
  counts = record {
    nodes = length (roads ++ stops ++ switches);
    stops = length stops;
    arcs = length arcs;
    links = length links;
    trips = tally.trips;
    calls = tally.calls;
  }

  counted : counts ≡ tallies_of drafted
  counted = rw (is.trips, is.calls, trips_counted (stop_number entries) sources, calls_counted (stop_number entries) sources) refl

  same : draft_fault caps sources drafted ≡ fault_by caps counts tally.back
  same = ap (fault_by caps (tallies_of drafted)) (sym is.back) ∙ ap (λ counts. fault_by caps counts tally.back) (sym counted)

  found : (fault : BuildFault) → fault_by caps counts tally.back ≡ Some fault → HasFault caps objects feed days fault
  found fault h = record { lists = drafted; entries = entries; sources = sources; draft = draft; first = same ∙ h }

  pub has_fault : (fault : BuildFault) → fault_by caps counts tally.back ≡ Some fault → IsFaultOf caps objects feed days fault
  has_fault OutOfMemory h = tt
  has_fault (TimeGoesBack row) h = found (TimeGoesBack row) h
  has_fault (TooMany kind) h = found (TooMany kind) h

  -- parts that are these
  module _ (none : fault_by caps counts tally.back ≡ None) (parts : NetworkLists) (are : parts ≡ drafted) where
    pub are_compiled : IsCompiled caps objects feed days parts
    are_compiled = subst (IsCompiled caps objects feed days) (sym are) (record { entries = entries; sources = sources; draft = draft; faultless = same ∙ none })

-- what was compiled can be built
module _ (caps : Caps) (objects : ObjectLists) (feed : FeedLists) (days : DaysMeaning) (n : NetworkLists) (sound : AreObjects objects) (compiled : IsCompiled caps objects feed days n) where
  pub compiled_are_parts : AreParts n
  compiled_are_parts = lists_are_parts objects compiled.entries n sound compiled.draft.lists compiled.draft.names

  pub compiled_keep : IsFeed feed → AreDays days → first_fault caps n ≡ None
  compiled_keep right days_sound = draft_keeps caps objects feed days compiled.entries compiled.sources n sound right days_sound compiled.draft compiled.faultless
