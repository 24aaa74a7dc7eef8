-- A map and a feed give over some days one region or one fault.
use Rattle.plan_base.proofs.Common.{◌≡◌, ℕ, ◌+◌, List, ◌++◌, map, length, Option, None, Ok, Err, sym, ap, ap₂, ◌∙◌, subst, Result, IsDistinct, length_permutation, none-some, same_Some}
use Rattle.plan_base.specs.{Caps}
use Rattle.service_days.specs.DaysMeaning.{DaysMeaning}
use Rattle.timetable_arcs.specs.{calls_of, TripLists}
use Rattle.opl_reader.specs.{OsmNode, AreObjects, ObjectLists.ObjectLists}
use Rattle.road_profile.specs.{legs_of, place_of_node, RoadRow}
use Rattle.gtfs_tables.specs.{FeedLists.FeedLists, IsFeed}
use Rattle.mode_network.specs.{NetworkLists.NetworkLists, nodes_of, AreInOrder, first_fault, Arc, Node}
use Rattle.region_build.specs.{BuildFault, draft_fault, fault_by, IsDraft, expanded, first_back, AreEnds, End, FindsNearest, stop_links, switch_links, arcs_of, road_nodes, SourceLists, entries_from, stop_entry_nodes, stop_number, switch_node}
use Rattle.promises.specs.{CompiledIsUnique, IsBuilt}
use Rattle.promises.proofs.{DraftLemmas.ends_once, DraftLemmas.named_apart_once, DraftLemmas.names_differ, DraftLemmas.rows_once, DraftLemmas.stop_links_once, DraftLemmas.switch_links_once, DraftLemmas.switches_once, HeadwayLemmas.headways_apart, HeadwayLemmas.is_same_headway, NetworkLemmas.arcs_once, NetworkLemmas.same_network, NetworkLemmas.ways_ascend, SourceLemmas.sources_once}

module _ (objects : ObjectLists) (sound : AreObjects objects) (feed : FeedLists) (rules : IsFeed feed) (apart : IsDistinct is_same_headway feed.frequencies) (days : DaysMeaning) (e f : _) (s t : List SourceLists) (n m : NetworkLists)
    (one : IsDraft objects feed days e s n) (other : IsDraft objects feed days f t m) where
  same_entries : e ≡ f
  same_entries =
      named_apart_once (entries_from 0 feed.stops) e f (λ entry. entry.name) (names_differ feed.stops 0 rules.stop_ids)
      one.lists.entries_are.same other.lists.entries_are.same one.lists.entries_are.ascend other.lists.entries_are.ascend

  same_sources : s ≡ t
  same_sources = sources_once feed days rules apart s t one.said other.said

  same_rows : one.lists.roads_are.rows ≡ other.lists.roads_are.rows
  same_rows = rows_once (legs_of objects) one.lists.roads_are.rows other.lists.roads_are.rows one.lists.roads_are.rows_are other.lists.roads_are.rows_are

  same_ends : one.lists.ends ≡ other.lists.ends
  same_ends =
      ends_once other.lists.roads_are.rows one.lists.ends other.lists.ends
      (subst (λ (rows : List RoadRow). AreEnds rows one.lists.ends) same_rows one.lists.roads_are.ends_are) other.lists.roads_are.ends_are

  same_roads : n.roads ≡ m.roads
  same_roads = one.lists.roads_are.nodes_are ∙ ap (road_nodes (place_of_node objects.nodes)) same_ends ∙ sym other.lists.roads_are.nodes_are

  same_stops : n.stops ≡ m.stops
  same_stops = one.lists.stops_are ∙ ap (stop_entry_nodes 0) same_entries ∙ sym other.lists.stops_are

  same_names : n.stop_names ≡ m.stop_names
  same_names = one.names ∙ ap (λ entries. map (λ entry. entry.name) entries) same_entries ∙ sym other.names

  same_places : one.lists.places ≡ other.lists.places
  same_places = switches_once objects sound one.lists.places other.lists.places one.lists.places_are other.lists.places_are

  same_switches : n.switches ≡ m.switches
  same_switches = one.lists.switches_are ∙ ap (map switch_node) same_places ∙ sym other.lists.switches_are

  same_trips : n.trips ≡ m.trips
  same_trips =
      one.trips ∙ ap (λ entries. expanded (stop_number entries) s) same_entries ∙ ap (λ (sources : List SourceLists). expanded (stop_number f) sources) same_sources ∙ sym other.trips

  -- the road arcs and the links, in some order
  arcs_moved : AreInOrder (arcs_of other.lists.ends other.lists.roads_are.rows) n.arcs
  arcs_moved = subst (λ (arcs : List Arc). AreInOrder arcs n.arcs) (ap₂ arcs_of same_ends same_rows) one.lists.roads_are.arcs_are

  also_finds : FindsNearest n.roads other.lists.links_are.near
  also_finds = subst (λ (roads : List Node). FindsNearest roads other.lists.links_are.near) (sym same_roads) other.lists.links_are.finds

  links_moved : AreInOrder (stop_links other.lists.links_are.near other.lists.ends (length m.roads) f ++ switch_links other.lists.links_are.near other.lists.ends (length m.roads + length f) other.lists.places) n.links
  links_moved =
      let near = other.lists.links_are.near in
      let first = ap₂ (λ (xs ys : List Arc). xs ++ ys)
      (stop_links_once n.roads one.lists.ends one.lists.links_are.near near one.lists.links_are.finds also_finds (length n.roads) e)
      (switch_links_once n.roads one.lists.ends one.lists.links_are.near near one.lists.links_are.finds also_finds (length n.roads + length e) one.lists.places) in
      let rest = ap (λ (ends : List End). stop_links near ends (length n.roads) e ++ switch_links near ends (length n.roads + length e) one.lists.places) same_ends
      ∙ ap (λ (roads : List Node). stop_links near other.lists.ends (length roads) e ++ switch_links near other.lists.ends (length roads + length e) one.lists.places) same_roads
      ∙ ap (λ entries. stop_links near other.lists.ends (length m.roads) entries ++ switch_links near other.lists.ends (length m.roads + length entries) one.lists.places) same_entries
      ∙ ap (λ (places : List OsmNode). stop_links near other.lists.ends (length m.roads) f ++ switch_links near other.lists.ends (length m.roads + length f) places) same_places in
      subst (λ (links : List Arc). AreInOrder links n.links) (first ∙ rest) one.lists.links_are.are

  -- two networks that break no rule are one
  pub one_region : (caps : Caps) → first_fault caps n ≡ None → first_fault caps m ≡ None → n ≡ m
  one_region caps none also =
      let keeps = ways_ascend caps n none in
      let too = ways_ascend caps m also in
      same_network n m (one.days_are ∙ sym other.days_are) same_roads same_names same_stops same_switches
      (arcs_once _ n.arcs m.arcs arcs_moved other.lists.roads_are.arcs_are keeps.0 too.0)
      (arcs_once _ n.links m.links links_moved other.lists.links_are.are keeps.1 too.1) same_trips

  -- ---- the first fault, by what is counted

  as_many : (given : List Arc) (xs ys : List Arc) → AreInOrder given xs → AreInOrder given ys → length xs ≡ length ys
  as_many given xs ys p q = length_permutation given xs p.same ∙ sym (length_permutation given ys q.same)

  same_nodes : length (nodes_of n) ≡ length (nodes_of m)
  same_nodes =
      ap (λ (roads : List Node). length (roads ++ n.stops ++ n.switches)) same_roads
      ∙ ap (λ (stops : List Node). length (m.roads ++ stops ++ n.switches)) same_stops
      ∙ ap (λ (switches : List Node). length (m.roads ++ m.stops ++ switches)) same_switches

  module _ (caps : Caps) where
    abbrev fault_of : ℕ → ℕ → ℕ → ℕ → List TripLists → List SourceLists → Option BuildFault
    fault_of nodes stops arcs links trips sources =
        fault_by caps (record { nodes = nodes; stops = stops; arcs = arcs; links = links; trips = length trips; calls = calls_of trips }) (first_back sources)

    pub one_fault : draft_fault caps s n ≡ draft_fault caps t m
    one_fault =
        ap (λ k. fault_of k (length n.stops) (length n.arcs) (length n.links) n.trips s) same_nodes
        ∙ ap (λ (stops : List Node). fault_of (length (nodes_of m)) (length stops) (length n.arcs) (length n.links) n.trips s) same_stops
        ∙ ap (λ k. fault_of (length (nodes_of m)) (length m.stops) k (length n.links) n.trips s) (as_many _ n.arcs m.arcs arcs_moved other.lists.roads_are.arcs_are)
        ∙ ap (λ k. fault_of (length (nodes_of m)) (length m.stops) (length m.arcs) k n.trips s) (as_many _ n.links m.links links_moved other.lists.links_are.are)
        ∙ ap (λ (trips : List TripLists). fault_of (length (nodes_of m)) (length m.stops) (length m.arcs) (length m.links) trips s) same_trips
        ∙ ap (λ (sources : List SourceLists). fault_of (length (nodes_of m)) (length m.stops) (length m.arcs) (length m.links) m.trips sources) same_sources

pub compiled_is_unique : CompiledIsUnique
compiled_is_unique caps objects sound files feed given rules days one other p q = by_answer one other p q
  where
    apart : IsDistinct is_same_headway feed.frequencies
    apart = headways_apart caps files feed given

    by_answer : (one other : Result NetworkLists BuildFault) → IsBuilt caps objects feed days one → IsBuilt caps objects feed days other → one ≡ other
    by_answer (Ok n) (Ok m) (is, keeps) (too, also) =
        ap (λ (x : NetworkLists). Ok x) (one_region objects sound feed rules apart days is.entries too.entries is.sources too.sources n m is.draft too.draft caps keeps also)
    by_answer (Ok n) (Err fault) (is, keeps) too =
        let same = one_fault objects sound feed rules apart days is.entries too.entries is.sources too.sources n too.lists is.draft too.draft caps in
        absurd (none-some fault (sym is.faultless ∙ same ∙ too.first))
    by_answer (Err fault) (Ok m) is (too, also) =
        let same = one_fault objects sound feed rules apart days is.entries too.entries is.sources too.sources is.lists m is.draft too.draft caps in
        absurd (none-some fault (sym too.faultless ∙ sym same ∙ is.first))
    by_answer (Err fault) (Err next) is too =
        let same = one_fault objects sound feed rules apart days is.entries too.entries is.sources too.sources is.lists too.lists is.draft too.draft caps in
        ap (λ (x : BuildFault). Err x) (same_Some fault next (sym is.first ∙ same ∙ too.first))
