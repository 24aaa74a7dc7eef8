-- Which nodes an endpoint of a query names.
use Rattle.std.specs.Prelude.{◌≡◌, ℕ, ℤ, ◌<◌, ◌≤◌, ◌↔◌, List, [], map, filter, Option, Some, None, slice_get, option_map}
use Rattle.plan_base.specs.{Mode, Place}
use Rattle.geo_length.specs.{Point, IsClosest}
use Rattle.mode_network.specs.{declared.nodes.Node.Node, declared.nodes.NodeKey.TheVariants.Road as RoadKey, declared.endpoints.Endpoint.TheVariants.Road, declared.endpoints.Endpoint.TheVariants.Stop, NetworkLists.NetworkLists, NetworkLists.mode_of, NetworkLists.stop_node, Rules.is_same_mode, Rules.rank_of}
pub use Rattle.mode_network.specs.{declared.endpoints.Endpoint.Endpoint, declared.endpoints.Endpoint.TheVariants.Near, declared.endpoints.Endpoint.TheVariants.NearIn}

-- the node is the OSM node of this id, in the layer of this mode; and of some mode
abbrev pub IsCopyIn : List Node → Mode → ℤ → ℕ → Type 0
IsCopyIn roads mode id v = option_map (λ (node : Node). node.key) (slice_get roads v) ≡ Some (RoadKey mode id)

abbrev pub IsRoadCopy : List Node → ℤ → ℕ → Type 0
IsRoadCopy roads id v = (mode : Mode) × IsCopyIn roads mode id v

-- the node is the stop of this name
abbrev pub IsStopCopy : NetworkLists → List ℕ → ℕ → Type 0
IsStopCopy n name v = (stop : ℕ) × (slice_get n.stop_names stop ≡ Some name) × (v ≡ stop_node n stop)

-- the id and the place of a road node, and of each
abbrev pub point_of : Node → Point
point_of node = ((rank_of node.key).0, node.place)

abbrev pub road_points : List Node → List Point
road_points roads = map point_of roads

-- the id of the road node that is nearest to a place, the lowest of those as near, and how far away it is; or there is no road node
abbrev pub IsNearestRoad : List Node → Place → Option (ℤ × ℕ) → Type 0
IsNearestRoad roads place (Some nearest) = IsClosest (road_points roads) place nearest.0 nearest.1
IsNearestRoad roads place None = roads ≡ []

-- the OSM node of the nearest road node, where that lies within two kilometres of the place
pub record IsNearCopy (roads : List Node) (place : Place) (v : ℕ) : Type 0 where
  pub id : ℤ
  pub mm : ℕ
  pub nearest : IsNearestRoad roads place (Some (id, mm))
  pub within : mm ≤ 2000000
  pub copy : IsRoadCopy roads id v

-- the road nodes of a mode, and their points
abbrev pub layer_nodes : List Node → Mode → List Node
layer_nodes roads mode = filter (λ (node : Node). is_same_mode (mode_of node.key) (Some mode)) roads

abbrev pub layer_points : List Node → Mode → List Point
layer_points roads mode = road_points (layer_nodes roads mode)

-- the same among the road nodes of a mode alone: which is nearest, and the one node that it is
abbrev pub IsNearestIn : List Node → Mode → Place → Option (ℤ × ℕ) → Type 0
IsNearestIn roads mode place nearest = IsNearestRoad (layer_nodes roads mode) place nearest

pub record IsNearCopyIn (roads : List Node) (mode : Mode) (place : Place) (v : ℕ) : Type 0 where
  pub id : ℤ
  pub mm : ℕ
  pub nearest : IsNearestIn roads mode place (Some (id, mm))
  pub within : mm ≤ 2000000
  pub copy : IsCopyIn roads mode id v

-- the node is a copy of the endpoint
abbrev pub IsCopy : NetworkLists → Endpoint → ℕ → Type 0
IsCopy n (Road id) v = IsRoadCopy n.roads id v
IsCopy n (Stop name) v = IsStopCopy n name v
IsCopy n (Near place) v = IsNearCopy n.roads place v
IsCopy n (NearIn mode place) v = IsNearCopyIn n.roads mode place v

-- the nodes from the first of these numbers to before the second are those with the property; or none has it
abbrev pub AreExactly : (ℕ → Type 0) → Option (ℕ × ℕ) → Type 0
AreExactly P (Some range) = (range.0 < range.1) × ((v : ℕ) → P v ↔ ((range.0 ≤ v) × (v < range.1)))
AreExactly P None = (v : ℕ) → P v → ⊥

abbrev pub AreCopies : NetworkLists → Endpoint → Option (ℕ × ℕ) → Type 0
AreCopies n endpoint range = AreExactly (IsCopy n endpoint) range

-- the place where a name stands in a list, and the only one; or it stands nowhere
abbrev pub IsPlaceOf : List (List ℕ) → List ℕ → Option ℕ → Type 0
IsPlaceOf names name (Some place) = (slice_get names place ≡ Some name) × ((k : ℕ) → slice_get names k ≡ Some name → k ≡ place)
IsPlaceOf names name None = (k : ℕ) → slice_get names k ≡ Some name → ⊥
