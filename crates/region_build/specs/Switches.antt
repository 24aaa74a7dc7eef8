-- The places of a map where travellers change between layers.
use Rattle.std.specs.Prelude.{List, Bool, true, false, Option, None, Some, option_to_list, if◌then◌else◌, flat_map, IsPermutation, IsSorted}
use Rattle.std.specs.Ordering.{int_cmp}
use Rattle.opl_reader.specs.{Amenity, Nothing, Parking, BicycleParking, BicycleRental, OsmNode}
use Rattle.mode_network.specs.{Node, Switch}

-- a parking or a rental
abbrev pub is_switch : Amenity → Bool
is_switch Nothing = false
is_switch Parking = true
is_switch BicycleParking = true
is_switch BicycleRental = true

abbrev pub switch_at : OsmNode → Option OsmNode
switch_at node = if is_switch node.amenity then Some node else None

-- all switches of a map, in the order of their ids
pub record AreSwitches (nodes switches : List OsmNode) : Type 0 where
  pub same : IsPermutation (flat_map (λ node. option_to_list (switch_at node)) nodes) switches
  pub ascend : IsSorted (λ a b. int_cmp a.id b.id) switches

abbrev pub switch_node : OsmNode → Node
switch_node node = record { key = Switch node.id; place = node.place }
