-- The road nodes and the road arcs of a region.
use Rattle.std.specs.Prelude.{ℕ, ℤ, List, Option, option_to_list, option_and_then, option_map, flat_map}
use Rattle.plan_base.specs.{Place}
use Rattle.mode_network.specs.{Arc, Node, Road}
use Rattle.road_profile.specs.{RoadRow}
use Rattle.region_build.specs.Ends.{End, number_of_end}

-- an end with the place of its node
unfoldable pub road_node : (ℤ → Option Place) → End → Option Node
road_node places end = option_map (λ place. record { key = Road end.1 end.0; place = place }) (places end.0)

abbrev pub road_nodes : (ℤ → Option Place) → List End → List Node
road_nodes places ends = flat_map (λ end. option_to_list (road_node places end)) ends

-- a road arc between the numbers of its ends
abbrev pub arc_between : Option ℕ → Option ℕ → ℕ → Option Arc
arc_between from to ms = option_and_then (λ from. option_map (λ to. record { from = from; to = to; ms = ms }) to) from

unfoldable pub arc_by_row : List End → RoadRow → Option Arc
arc_by_row ends row = arc_between (number_of_end ends (row.from, row.mode)) (number_of_end ends (row.to, row.mode)) row.ms

abbrev pub arcs_of : List End → List RoadRow → List Arc
arcs_of ends rows = flat_map (λ row. option_to_list (arc_by_row ends row)) rows
