use Rattle.std.specs.Prelude.{ℕ, ◌+◌, ◌-◌, ◌&&◌, nat_le, nat_lt, if◌then◌else◌, List, ◌++◌, length, Option, None, Some, slice_get, option_and_then, option_map}
use Rattle.plan_base.specs.{number_of_mode, Mode}
use Rattle.service_days.specs.DaysMeaning.{DaysMeaning}
use Rattle.timetable_arcs.specs.{TripLists}
pub use Rattle.mode_network.specs.{declared.nodes.Node.Node, declared.nodes.Arc.Arc, declared.nodes.NodeKey.NodeKey, declared.nodes.NodeKey.TheVariants.Road, declared.nodes.NodeKey.TheVariants.Stop, declared.nodes.NodeKey.TheVariants.Switch}

-- what a network consists of, as lists
pub record NetworkLists : Type 0 where
  pub days : DaysMeaning
  pub roads : List Node
  pub stop_names : List (List ℕ)
  pub stops : List Node
  pub switches : List Node
  pub arcs : List Arc
  pub links : List Arc
  pub trips : List TripLists

-- the nodes in the order of their numbers: the road nodes, then the stops, then the switches
abbrev pub nodes_of : NetworkLists → List Node
nodes_of n = n.roads ++ n.stops ++ n.switches

-- the road mode of a node; a stop or a switch has none
abbrev pub mode_of : NodeKey → Option Mode
mode_of (Road mode id) = Some mode
mode_of (Stop stop) = None
mode_of (Switch id) = None

-- the road mode of the node of this number
abbrev pub mode_at : List Node → ℕ → Option Mode
mode_at roads v = option_and_then (λ (node : Node). mode_of node.key) (slice_get roads v)

-- and its letter
abbrev pub letter_at : List Node → ℕ → Option ℕ
letter_at roads v = option_map number_of_mode (mode_at roads v)

-- the stop that has this node number, by its place among the stops
abbrev pub stop_at : NetworkLists → ℕ → Option ℕ
stop_at n v =
    if nat_le (length n.roads) v && nat_lt (v - length n.roads) (length n.stops) then Some (v - length n.roads) else None

-- the node number of a stop
abbrev pub stop_node : NetworkLists → ℕ → ℕ
stop_node n stop = length n.roads + stop
