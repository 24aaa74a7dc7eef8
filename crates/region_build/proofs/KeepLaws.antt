-- What a map and a feed give keeps the rules of networks, where there is not too much of anything and no times go back.
use Rattle.plan_base.proofs.Common.{◌≡◌, ℕ, ◌+◌, List, ◌++◌, length, Bool, true, false, nat_lt, Option, None, Some, if◌then◌else◌, refl, sym, ap, ◌∙◌, arith, length-append, option_map, length-map, none-some}
use Rattle.plan_base.specs.{Caps, Kind}
use Rattle.plan_base.specs.declared.limits.Kind.TheVariants as kinds
use Rattle.service_days.specs.{AreDays, DaysMeaning.DaysMeaning}
use Rattle.opl_reader.specs.{AreObjects, ObjectLists.ObjectLists}
use Rattle.gtfs_tables.specs.{FeedLists.FeedLists, IsFeed}
use Rattle.timetable_arcs.specs.{calls_of}
use Rattle.mode_network.specs.{NetworkLists.NetworkLists, nodes_of, count_fault, first_fault, first_unsorted, links_fault, name_cmp, node_cmp, trips_fault}
use Rattle.region_build.specs.{draft_fault, or_else, IsDraft, kind_over, first_back, SourceLists, switch_node, tallies_of, TimeGoesBack, TooMany, StopEntry}
use Rattle.region_build.proofs.{ArcLaws.arcs_right, EndLaws.roads_long, EndLaws.roads_rise, LinkLaws.links_right, PartLaws.stop_nodes_long, PlaceLaws.names_rise, PlaceLaws.switches_rise, TripRuleLaws.trips_right}

-- nothing is over its limit
record AllWithin (a b c d e f : Bool) : Type 0 where
  nodes : a ≡ false
  stops : b ≡ false
  arcs : c ≡ false
  links : d ≡ false
  trips : e ≡ false
  calls : f ≡ false

within : (a b c d e f : Bool)
    → (if a then Some kinds.Nodes else (if b then Some kinds.Stops else (if c then Some kinds.Arcs else (if d then Some kinds.Links else (if e then Some kinds.Trips else (if f then Some kinds.Calls else None)))))) ≡ None
    → AllWithin a b c d e f
within true b c d e f h = absurd (none-some kinds.Nodes (sym h))
within false true c d e f h = absurd (none-some kinds.Stops (sym h))
within false false true d e f h = absurd (none-some kinds.Arcs (sym h))
within false false false true e f h = absurd (none-some kinds.Links (sym h))
within false false false false true f h = absurd (none-some kinds.Trips (sym h))
within false false false false false true h = absurd (none-some kinds.Calls (sym h))
within false false false false false false h = record { nodes = refl; stops = refl; arcs = refl; links = refl; trips = refl; calls = refl }

-- no fault is there where neither is
neither : (kind : Option Kind) (back : Option ℕ) → or_else (option_map TooMany kind) (option_map TimeGoesBack back) ≡ None → (kind ≡ None) × (back ≡ None)
neither None None h = (refl, refl)
neither None (Some row) h = absurd (none-some (TimeGoesBack row) (sym h))
neither (Some kind) back h = absurd (none-some (TooMany kind) (sym h))

module _ (caps : Caps) (objects : ObjectLists) (feed : FeedLists) (days : DaysMeaning) (entries : List StopEntry) (sources : List SourceLists) (n : NetworkLists)
    (sound : AreObjects objects) (right : IsFeed feed) (days_sound : AreDays days) (draft : IsDraft objects feed days entries sources n) (none : draft_fault caps sources n ≡ None) where
  caps_hold : AllWithin (nat_lt caps.nodes (length (nodes_of n))) (nat_lt caps.stops (length n.stops)) (nat_lt caps.arcs (length n.arcs)) (nat_lt caps.links (length n.links)) (nat_lt caps.trips (length n.trips)) (nat_lt caps.calls (calls_of n.trips))
  caps_hold = within _ _ _ _ _ _ (neither (kind_over caps (tallies_of n)) (first_back sources) none).0

  counts_right : count_fault caps n ≡ None
  counts_right = rw (caps_hold.nodes, caps_hold.stops, caps_hold.arcs, caps_hold.links) refl

  roads_right : first_unsorted node_cmp 0 n.roads ≡ None
  roads_right = roads_rise objects draft.lists.ends n.roads n.arcs draft.lists.roads_are

  names_right : first_unsorted name_cmp 0 n.stop_names ≡ None
  names_right = ap (first_unsorted name_cmp 0) draft.names ∙ names_rise feed.stops entries right.stop_ids draft.lists.entries_are

  switches_right : first_unsorted node_cmp 0 n.switches ≡ None
  switches_right = ap (first_unsorted node_cmp 0) draft.lists.switches_are ∙ switches_rise objects draft.lists.places sound draft.lists.places_are

  long : length n.roads ≡ length draft.lists.ends
  long = roads_long objects draft.lists.ends n.roads n.arcs draft.lists.roads_are

  stops_long : length n.stops ≡ length entries
  stops_long = ap length draft.lists.stops_are ∙ stop_nodes_long 0 entries

  all_nodes : length (nodes_of n) ≡ length n.roads + length entries + length draft.lists.places
  all_nodes =
      let switches : length n.switches ≡ length draft.lists.places = ap length draft.lists.switches_are ∙ length-map draft.lists.places switch_node in
      omega (arith, length-append (n.roads ++ n.stops) n.switches, length-append n.roads n.stops, stops_long, switches)

  links_are_right : links_fault n ≡ None
  links_are_right = links_right n.roads draft.lists.ends entries draft.lists.places n.links (length (nodes_of n)) long all_nodes draft.lists.links_are

  trips_are_right : trips_fault caps n ≡ None
  trips_are_right =
      let kept = trips_right feed days entries sources right days_sound draft.lists.entries_are draft.said (neither (kind_over caps (tallies_of n)) (first_back sources) none).1 in
      rw (caps_hold.trips, caps_hold.calls, draft.days_are, stops_long, draft.trips) kept

  pub draft_keeps : first_fault caps n ≡ None
  draft_keeps = rw (counts_right, roads_right, names_right, switches_right, arcs_right objects draft.lists.ends n.roads n.arcs draft.lists.roads_are, links_are_right, trips_are_right) refl
