-- The sample city.
use Rattle.std.specs.Prelude.{◌≡◌, ℕ, List, length, map, IsPermutation, IsSorted}
use Rattle.service_days.specs.{plain_days}
use Rattle.plan_base.specs.{Caps}
use Rattle.mode_network.specs.{NetworkLists.NetworkLists, AreInOrder, IsFaultOf, name_cmp, NetFault, OutOfMemory}
use Rattle.sample_city.specs.{Roads.city_arcs, Roads.city_roads, Roads.road_number, Stops.city_links, Stops.city_stop_nodes, Stops.city_stops, Stops.city_switches, Trips.city_trips, declared.stops.CityStop.CityStop}

-- A network is this city: its stops ascend by their names, and its arcs and links by their ends.
pub record IsSampleCity (n : ℕ) (network : NetworkLists) : Type 0 where
  pub city : List CityStop
  pub city_is : IsPermutation (city_stops n) city
  pub ascend : IsSorted (λ a b. name_cmp a.name b.name) city
  pub days : network.days ≡ plain_days 20240304 3
  pub roads : network.roads ≡ city_roads n
  pub names : network.stop_names ≡ map (λ (stop : CityStop). stop.name) city
  pub stops : network.stops ≡ city_stop_nodes 0 city
  pub switches : network.switches ≡ city_switches n
  pub arcs : AreInOrder (city_arcs n (road_number network.roads)) network.arcs
  pub links : AreInOrder (city_links n (road_number network.roads) (length network.roads) city) network.links
  pub trips : network.trips ≡ city_trips n city

-- why there is no such network within these limits
abbrev pub IsCityRefusal : ℕ → Caps → NetFault → Type 0
IsCityRefusal n caps OutOfMemory = Unit {0}
IsCityRefusal n caps fault = (city : NetworkLists) × IsSampleCity n city × IsFaultOf caps city fault
