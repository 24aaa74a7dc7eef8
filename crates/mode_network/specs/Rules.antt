use Rattle.std.specs.Prelude.{[], ◌∷◌, ◌≡◌, ℕ, ℤ, pos, ◌+◌, ◌<◌, ◌≤◌, ◌^◌, ◌==◌, ◌&&◌, nat_lt, nat_le, Bool, true, false, not, if◌then◌else◌, List, length, Option, None, Some, All, AllPairs, slice_index_or, option_map, IsPermutation, IsSorted, position}
use Rattle.std.specs.Cmp.Lexicographic.{slice_cmp}
use Rattle.std.specs.Ordering.{ordering_then, nat_cmp, int_cmp, is_lt}
use Rattle.std.specs.declared.cmp.Ordering.{Ordering}
use Rattle.std.specs.declared.cmp.Ordering.TheVariants.{Less}
use Rattle.std.proofs.Props.{props}
use Rattle.plain_texts.specs.{is_name, IsId}
use Rattle.plan_base.specs.{number_of_mode, Mode, Caps, Kind, Nodes, Arcs, Links, Stops}
use Rattle.timetable_arcs.specs.{table_fault, AreTrips, TripLists, TableFault}
use Rattle.mode_network.specs.{declared.nodes.Node.Node, declared.nodes.Arc.Arc, declared.nodes.NodeKey.NodeKey, declared.nodes.NodeKey.TheVariants.Road, declared.nodes.NodeKey.TheVariants.Stop, declared.nodes.NodeKey.TheVariants.Switch, declared.faults.NetFault.NetFault, declared.faults.NetFault.TheVariants.Table, NetworkLists.NetworkLists, NetworkLists.nodes_of, NetworkLists.mode_at}
pub use Rattle.mode_network.specs.declared.faults.NetFault.TheVariants.{OutOfOrder, BadEnd, TooMany, OutOfMemory}

-- ids and then modes: what road nodes are ordered by, and switches, which have no mode
abbrev pub rank_of : NodeKey → ℤ × ℕ
rank_of (Road mode id) = (id, number_of_mode mode)
rank_of (Stop stop) = (pos 0, stop)
rank_of (Switch id) = (id, 0)

abbrev pub node_cmp : Node → Node → Ordering
node_cmp a b = ordering_then (int_cmp (rank_of a.key).0 (rank_of b.key).0) (nat_cmp (rank_of a.key).1 (rank_of b.key).1)

-- by bytes
abbrev pub name_cmp : List ℕ → List ℕ → Ordering
name_cmp = slice_cmp nat_cmp

-- by the node that an arc leaves, and then by the node that it leads to
abbrev pub arc_cmp : Arc → Arc → Ordering
arc_cmp a b = ordering_then (nat_cmp a.from b.from) (nat_cmp a.to b.to)

-- these arcs in the order of the nodes that they lead from and to
pub record AreInOrder (given arcs : List Arc) : Type 0 where
  pub same : IsPermutation given arcs
  pub ascend : IsSorted arc_cmp arcs

-- the first row that is not above the row before it; the rows are counted from k
abbrev pub first_unsorted : {X : Type 0} → (X → X → Ordering) → ℕ → List X → Option ℕ
first_unsorted cmp k [] = None
first_unsorted cmp k (row ∷ []) = None
first_unsorted cmp k (row ∷ next ∷ later) =
    if is_lt (cmp row next) then first_unsorted cmp (k + 1) (next ∷ later) else Some (k + 1)

-- both are there, and equal
abbrev pub is_same_mode : Option Mode → Option Mode → Bool
is_same_mode (Some a) (Some b) = number_of_mode a == number_of_mode b
is_same_mode (Some a) None = false
is_same_mode None b = false

-- the ends of a road arc are different road nodes of one mode
abbrev pub joins_modes : List Node → Arc → Bool
joins_modes roads arc = is_same_mode (mode_at roads arc.from) (mode_at roads arc.to) && not (arc.from == arc.to)

-- the ends of a link are nodes, of which exactly one is a road node; the road nodes have the first numbers
abbrev pub joins_layers : ℕ → ℕ → Arc → Bool
joins_layers roads nodes link =
    nat_lt link.from nodes && nat_lt link.to nodes && (if nat_lt link.from roads then nat_le roads link.to else nat_lt link.to roads)

-- the first fault of a row, where the first bad end and the first row out of order stand there: at one row the bad end comes first
abbrev pub end_or_order_fault : Kind → Option ℕ → Option ℕ → Option NetFault
end_or_order_fault kind None None = None
end_or_order_fault kind (Some bad) None = Some (BadEnd kind bad)
end_or_order_fault kind None (Some unsorted) = Some (OutOfOrder kind unsorted)
end_or_order_fault kind (Some bad) (Some unsorted) = Some (if nat_le bad unsorted then BadEnd kind bad else OutOfOrder kind unsorted)

abbrev pub unsorted_fault : Kind → Option ℕ → Option NetFault
unsorted_fault kind unsorted = option_map (OutOfOrder kind) unsorted

-- what there are too many of, tried in this order
abbrev pub count_fault : Caps → NetworkLists → Option NetFault
count_fault caps n =
    if nat_lt caps.nodes (length (nodes_of n)) then Some (TooMany Nodes)
    else (if nat_lt caps.stops (length n.stops) then Some (TooMany Stops)
    else (if nat_lt caps.arcs (length n.arcs) then Some (TooMany Arcs)
    else (if nat_lt caps.links (length n.links) then Some (TooMany Links)
    else None)))

abbrev pub arcs_fault : NetworkLists → Option NetFault
arcs_fault n = end_or_order_fault Arcs (position (λ arc. not (joins_modes n.roads arc)) n.arcs) (first_unsorted arc_cmp 0 n.arcs)

abbrev pub links_fault : NetworkLists → Option NetFault
links_fault n = end_or_order_fault Links (position (λ link. not (joins_layers (length n.roads) (length (nodes_of n)) link)) n.links) (first_unsorted arc_cmp 0 n.links)

-- the first fault that is there
abbrev pub or_else : Option NetFault → Option NetFault → Option NetFault
or_else (Some fault) later = Some fault
or_else None later = later

-- the first rule of nodes, arcs and links that the parts break
abbrev pub lists_fault : Caps → NetworkLists → Option NetFault
lists_fault caps n =
    or_else (count_fault caps n)
    (or_else (unsorted_fault Nodes (first_unsorted node_cmp 0 n.roads))
    (or_else (unsorted_fault Stops (first_unsorted name_cmp 0 n.stop_names))
    (or_else (unsorted_fault Nodes (first_unsorted node_cmp 0 n.switches))
    (or_else (arcs_fault n) (links_fault n)))))

abbrev pub trips_fault : Caps → NetworkLists → Option TableFault
trips_fault caps n = table_fault caps (length n.days.bases) (length n.stops) n.trips

-- the first rule of a network that its parts break: those of the timetable come last
abbrev pub first_fault : Caps → NetworkLists → Option NetFault
first_fault caps n = or_else (lists_fault caps n) (option_map Table (trips_fault caps n))

-- what a road node, the stop at a place of its list, and a switch have as their key
abbrev pub IsRoad : NodeKey → Type 0
IsRoad (Road mode id) = IsId id
IsRoad (Stop stop) = ⊥
IsRoad (Switch id) = ⊥

abbrev pub IsStop : ℕ → NodeKey → Type 0
IsStop place (Road mode id) = ⊥
IsStop place (Stop stop) = stop ≡ place
IsStop place (Switch id) = ⊥

abbrev pub IsSwitch : NodeKey → Type 0
IsSwitch (Road mode id) = ⊥
IsSwitch (Stop stop) = ⊥
IsSwitch (Switch id) = IsId id

-- what a caller that builds a network hands over
pub record AreParts (n : NetworkLists) : Type 0 where
  pub roads_are : All (λ node. IsRoad node.key) n.roads
  pub stops_are : (k : ℕ) (d : Node) → k < length n.stops → IsStop k (slice_index_or n.stops k d).key
  pub switches_are : All (λ node. IsSwitch node.key) n.switches
  pub one_name_each : length n.stop_names ≡ length n.stops
  pub arcs_last : All (λ arc. 0 < arc.ms) n.arcs
  pub links_last : All (λ link. 0 < link.ms) n.links

-- each row is above those before it
abbrev pub IsAscending : {X : Type 0} → (X → X → Ordering) → List X → Type 0
IsAscending cmp rows = AllPairs (λ a b. cmp a b ≡ Less) rows

-- a duration is below 2 ^ 32 ms
abbrev pub HaveDurations : List Arc → Type 0
HaveDurations arcs = All (λ arc. arc.ms < 2 ^ 32) arcs

-- names of stops, and those of trips, are names
abbrev pub AreNames : List (List ℕ) → Type 0
AreNames names = All (λ name. is_name name ≡ true) names

abbrev pub AreNamed : List TripLists → Type 0
AreNamed trips = All (λ (trip : TripLists). is_name trip.name ≡ true) trips

-- the rules that each network keeps
pub record IsNetwork (n : NetworkLists) : Type 0 where
  pub parts : AreParts n
  pub few_nodes : length (nodes_of n) ≤ 2 ^ 24
  pub few_stops : length n.stops ≤ 2 ^ 20
  pub few_arcs : length n.arcs ≤ 2 ^ 26
  pub few_links : length n.links ≤ 2 ^ 23
  pub roads_ascend : IsAscending node_cmp n.roads
  pub names_are : AreNames n.stop_names
  pub names_ascend : IsAscending name_cmp n.stop_names
  pub switches_ascend : IsAscending node_cmp n.switches
  pub arcs_join : All (λ arc. joins_modes n.roads arc ≡ true) n.arcs
  pub arcs_ascend : IsAscending arc_cmp n.arcs
  pub links_join : All (λ link. joins_layers (length n.roads) (length (nodes_of n)) link ≡ true) n.links
  pub links_ascend : IsAscending arc_cmp n.links
  pub arcs_fit : HaveDurations n.arcs
  pub links_fit : HaveDurations n.links
  pub trips_fit : AreTrips (length n.days.bases) (length n.stops) n.trips
  pub trips_named : AreNamed n.trips

-- a refusal has its cause in the parts; want of memory has none
abbrev pub IsFaultOf : Caps → NetworkLists → NetFault → Type 0
IsFaultOf caps n OutOfMemory = Unit {0}
IsFaultOf caps n (OutOfOrder kind row) = first_fault caps n ≡ Some (OutOfOrder kind row)
IsFaultOf caps n (BadEnd kind row) = first_fault caps n ≡ Some (BadEnd kind row)
IsFaultOf caps n (Table fault) = first_fault caps n ≡ Some (Table fault)
IsFaultOf caps n (TooMany kind) = first_fault caps n ≡ Some (TooMany kind)

-- there is one proof at most that a key is such a key, and that lists are those of a network
pub IsRoad-prop : (key : NodeKey) → IsProp (IsRoad key)
IsRoad-prop (Road mode id) = hlevel props
IsRoad-prop (Stop stop) = hlevel props
IsRoad-prop (Switch id) = hlevel props

pub IsStop-prop : (place : ℕ) (key : NodeKey) → IsProp (IsStop place key)
IsStop-prop place (Road mode id) = hlevel props
IsStop-prop place (Stop stop) = hlevel props
IsStop-prop place (Switch id) = hlevel props

pub IsSwitch-prop : (key : NodeKey) → IsProp (IsSwitch key)
IsSwitch-prop (Road mode id) = hlevel props
IsSwitch-prop (Stop stop) = hlevel props
IsSwitch-prop (Switch id) = hlevel props

pub IsNetwork-prop : (n : NetworkLists) → IsProp (IsNetwork n)
IsNetwork-prop n = hlevel (props, IsRoad-prop, IsStop-prop, IsSwitch-prop)
