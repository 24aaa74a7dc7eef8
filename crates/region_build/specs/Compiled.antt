-- The region of a map and a feed.
use Rattle.std.specs.Prelude.{◌≡◌, List, map, Option, None, Some, nat_lt, if◌then◌else◌}
use Rattle.plan_base.specs.{Caps, Kind}
use Rattle.plan_base.specs.declared.limits.Kind.TheVariants as kind
use Rattle.service_days.specs.DaysMeaning.{DaysMeaning}
use Rattle.timetable_arcs.specs.{TripLists}
use Rattle.opl_reader.specs.{OsmNode, ObjectLists.ObjectLists}
use Rattle.road_profile.specs.{AreRoadArcs, place_of_node, RoadRow}
use Rattle.gtfs_tables.specs.FeedLists.{FeedLists}
use Rattle.mode_network.specs.{NetworkLists.NetworkLists, AreInOrder, Arc, Node}
use Rattle.region_build.specs.{Copies.expanded, Ends.AreEnds, Ends.End, Links.AreLinks, Roads.arcs_of, Roads.road_nodes, Sources.AreTripSources, Sources.SourceLists, StopNames.AreEntries, StopNames.stop_entry_nodes, StopNames.stop_number, Switches.AreSwitches, Switches.switch_node, declared.stops.StopEntry.StopEntry, declared.tallies.Counts.Counts}
pub use Rattle.region_build.specs.declared.building.Lists.{Lists}

-- the ends of a map's road arcs, their nodes in the order of ids and modes, and the road arcs between them
pub record AreRoads (objects : ObjectLists) (ends : List End) (nodes : List Node) (arcs : List Arc) : Type 0 where
  pub rows : List RoadRow
  pub rows_are : AreRoadArcs objects rows
  pub ends_are : AreEnds rows ends
  pub nodes_are : nodes ≡ road_nodes (place_of_node objects.nodes) ends
  pub arcs_are : AreInOrder (arcs_of ends rows) arcs

-- The nodes, the road arcs and the links that a map and a feed give: the stops stand in the order of their names, and
-- the switches in that of their ids.
pub record AreLists (objects : ObjectLists) (feed : FeedLists) (entries : List StopEntry) (roads stops switches : List Node) (arcs links : List Arc) : Type 0 where
  pub ends : List End
  pub roads_are : AreRoads objects ends roads arcs
  pub entries_are : AreEntries feed.stops entries
  pub stops_are : stops ≡ stop_entry_nodes 0 entries
  pub places : List OsmNode
  pub places_are : AreSwitches objects.nodes places
  pub switches_are : switches ≡ map switch_node places
  pub links_are : AreLinks roads ends entries places links

-- the same of lists that are held together
abbrev pub AreListsOf : ObjectLists → FeedLists → Lists → Type 0
AreListsOf objects feed lists = AreLists objects feed lists.entries.items lists.roads.items lists.stops.items lists.switches.items lists.arcs.items lists.links.items

-- the network of these days, lists and trips
abbrev pub network_lists : DaysMeaning → Lists → List TripLists → NetworkLists
network_lists days lists trips = record {
  days = days;
  roads = lists.roads.items;
  stop_names = map (λ entry. entry.name) lists.entries.items;
  stops = lists.stops.items;
  switches = lists.switches.items;
  arcs = lists.arcs.items;
  links = lists.links.items;
  trips = trips;
}

-- What a map and a feed give over some days: these lists, the names of the stops, and the trips of the feed, each as
-- often as it leaves.
pub record IsDraft (objects : ObjectLists) (feed : FeedLists) (days : DaysMeaning) (entries : List StopEntry) (sources : List SourceLists) (n : NetworkLists) : Type 0 where
  pub days_are : n.days ≡ days
  pub lists : AreLists objects feed entries n.roads n.stops n.switches n.arcs n.links
  pub names : n.stop_names ≡ map (λ entry. entry.name) entries
  pub said : AreTripSources feed days sources
  pub trips : n.trips ≡ expanded (stop_number entries) sources

-- what there is too much of, tried in this order
abbrev pub kind_over : Caps → Counts → Option Kind
kind_over caps counts =
    if nat_lt caps.nodes counts.nodes then Some kind.Nodes
    else (if nat_lt caps.stops counts.stops then Some kind.Stops
    else (if nat_lt caps.arcs counts.arcs then Some kind.Arcs
    else (if nat_lt caps.links counts.links then Some kind.Links
    else (if nat_lt caps.trips counts.trips then Some kind.Trips
    else (if nat_lt caps.calls counts.calls then Some kind.Calls
    else None)))))
