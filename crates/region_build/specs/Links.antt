-- The links between places and the layers of the road modes.
use Rattle.std.specs.Prelude.{ℕ, ℤ, ◌+◌, List, [], ◌∷◌, ◌++◌, length, map, nat_eq, Bool, true, false, Option, None, Some, option_to_list, if◌then◌else◌, flat_map}
use Rattle.plan_base.specs.{number_of_mode, Mode, Foot, Bike, Car, Place}
use Rattle.geo_length.specs.{duration_of, Point, IsNearest}
use Rattle.opl_reader.specs.{Amenity, Nothing, Parking, BicycleParking, BicycleRental, OsmNode}
use Rattle.mode_network.specs.{Arc, Node, NodeKey, Road, Stop, Switch, AreInOrder}
use Rattle.region_build.specs.{Ends.End, Ends.number_of_end, declared.stops.StopEntry.StopEntry}
pub use Rattle.region_build.specs.declared.links.Join.{Join}

-- A place is joined with the layer of a mode: there is a link to it from there, or from it to there, or both.
abbrev pub join : Mode → Bool → Bool → Join
join mode enters leaves = record { mode = mode; enters = enters; leaves = leaves }

-- a stop is joined with the walkers' layer
abbrev pub stop_joins : List Join
stop_joins = join Foot true true ∷ []

-- what a switch joins
abbrev pub switch_joins : Amenity → List Join
switch_joins Nothing = []
switch_joins Parking = join Car true true ∷ join Foot true true ∷ []
switch_joins BicycleParking = join Bike true false ∷ join Foot false true ∷ []
switch_joins BicycleRental = join Foot true true ∷ join Bike true true ∷ []

-- the points of a layer: the road nodes of a mode
abbrev pub point_in : Mode → Place → NodeKey → Option Point
point_in mode place (Road other id) = if nat_eq (number_of_mode other) (number_of_mode mode) then Some (id, place) else None
point_in mode place (Stop stop) = None
point_in mode place (Switch id) = None

unfoldable pub layer : Mode → List Node → List Point
layer mode roads = flat_map (λ (node : Node). option_to_list (point_in mode node.place node.key)) roads

-- the links of a join between the place of this number and the road node of that one
abbrev pub linked : Join → ℕ → Option ℕ → Option ℕ → List Arc
linked join place None ms = []
linked join place (Some road) None = []
linked join place (Some road) (Some ms) =
    (if join.enters then record { from = road; to = place; ms = ms } ∷ [] else [])
    ++ (if join.leaves then record { from = place; to = road; ms = ms } ∷ [] else [])

-- to the nearest node of the layer, on foot
abbrev pub linked_to : List End → Join → ℕ → Option (ℤ × ℕ) → List Arc
linked_to ends join place None = []
linked_to ends join place (Some nearest) = linked join place (number_of_end ends (nearest.0, join.mode)) (duration_of nearest.1 1400)

-- the links of a place, where `near` gives the nearest node of a layer
unfoldable pub join_links : (Mode → Place → Option (ℤ × ℕ)) → List End → ℕ → Place → Join → List Arc
join_links near ends number place join = linked_to ends join number (near join.mode place)

unfoldable pub links_at : (Mode → Place → Option (ℤ × ℕ)) → List End → ℕ → Place → List Join → List Arc
links_at near ends number place joins = flat_map (join_links near ends number place) joins

-- the links of places, each with what it joins, whose nodes are counted from this number
abbrev pub place_links : (Mode → Place → Option (ℤ × ℕ)) → List End → ℕ → List (Place × List Join) → List Arc
place_links near ends number [] = []
place_links near ends number (place ∷ places) = links_at near ends number place.0 place.1 ++ place_links near ends (number + 1) places

abbrev pub joined_stop : StopEntry → Place × List Join
joined_stop entry = (entry.place, stop_joins)

abbrev pub joined_switch : OsmNode → Place × List Join
joined_switch switch = (switch.place, switch_joins switch.amenity)

-- those of stops, and those of switches
abbrev pub stop_links : (Mode → Place → Option (ℤ × ℕ)) → List End → ℕ → List StopEntry → List Arc
stop_links near ends number entries = place_links near ends number (map joined_stop entries)

abbrev pub switch_links : (Mode → Place → Option (ℤ × ℕ)) → List End → ℕ → List OsmNode → List Arc
switch_links near ends number switches = place_links near ends number (map joined_switch switches)

-- `near` gives the nearest node of each layer within half a kilometre
pub record FindsNearest (roads : List Node) (near : Mode → Place → Option (ℤ × ℕ)) : Type 0 where
  pub nearest : (mode : Mode) (place : Place) → IsNearest (layer mode roads) place 500000 (near mode place)

-- the links of all stops and switches, whose nodes stand behind the road nodes
pub record AreLinks (roads : List Node) (ends : List End) (entries : List StopEntry) (switches : List OsmNode) (links : List Arc) : Type 0 where
  pub near : Mode → Place → Option (ℤ × ℕ)
  pub finds : FindsNearest roads near
  pub are : AreInOrder (stop_links near ends (length roads) entries ++ switch_links near ends (length roads + length entries) switches) links
