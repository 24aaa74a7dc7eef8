-- Of each size there is one sample city that keeps the rules of networks.
use Rattle.plan_base.proofs.Common.{◌≡◌, ℕ, List, map, length, sym, ap, ◌∙◌, subst}
use Rattle.mode_network.specs.{NetworkLists.NetworkLists, AreInOrder, IsNetwork, Node}
use Rattle.sample_city.specs.{city_arcs, road_number, city_links, city_stop_nodes, city_stops, city_trips, IsSampleCity}
use Rattle.promises.proofs.NetworkLemmas.{arcs_once, named_once, same_network}

module _ (n : ℕ) (one other : NetworkLists) (rules : IsNetwork one) (also : IsNetwork other) (is : IsSampleCity n one) (too : IsSampleCity n other) where
  same_stops : is.city ≡ too.city
  same_stops = named_once (city_stops n) is.city too.city (λ stop. stop.name) one.stop_names other.stop_names is.city_is too.city_is is.names too.names rules.names_ascend also.names_ascend

  same_roads : one.roads ≡ other.roads
  same_roads = is.roads ∙ sym too.roads

  same_arcs : one.arcs ≡ other.arcs
  same_arcs =
      arcs_once (city_arcs n (road_number one.roads)) one.arcs other.arcs is.arcs
      (subst (λ (roads : List Node). AreInOrder (city_arcs n (road_number roads)) other.arcs) (sym same_roads) too.arcs) rules.arcs_ascend also.arcs_ascend

  same_links : one.links ≡ other.links
  same_links =
      arcs_once (city_links n (road_number one.roads) (length one.roads) is.city) one.links other.links is.links
      (subst (λ (roads : List Node). AreInOrder (city_links n (road_number roads) (length roads) is.city) other.links) (sym same_roads)
      (subst (λ city. AreInOrder (city_links n (road_number other.roads) (length other.roads) city) other.links) (sym same_stops) too.links))
      rules.links_ascend also.links_ascend

  pub city_once : one ≡ other
  city_once =
      let days = is.days ∙ sym too.days in
      let roads = same_roads in
      let names = is.names ∙ ap (λ city. map (λ stop. stop.name) city) same_stops ∙ sym too.names in
      let stops = is.stops ∙ ap (city_stop_nodes 0) same_stops ∙ sym too.stops in
      let switches = is.switches ∙ sym too.switches in
      let arcs = same_arcs in
      let links = same_links in
      let trips = is.trips ∙ ap (city_trips n) same_stops ∙ sym too.trips in
      same_network one other days roads names stops switches arcs links trips
