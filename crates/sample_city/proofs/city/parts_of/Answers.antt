use Rattle.plan_base.proofs.Common.{◌≡◌, ap, ◌∙◌, flat_map}
use Rattle.sample_city.specs.{corners, nodes_at, city_stop_nodes, city_trips}
use Rattle.sample_city.proofs.CityLaws.{city_parts}
use Rattle.sample_city.proofs.city.parts_of.Goals as goal

pub returns-clause-city : goal.returns-clause-city
returns-clause-city c =
    let n = c.args.n in
    let city = c.in_ok-city.city.items in
    let roads = c.in_ok-roads.roads.items in
    let corners_are : c.as_slice-corners.result.now ≡ corners n = c.as_slice-corners.ensures.value ∙ c.in_ok-all.ensures in
    record {
      city = city;
      city_is = rw corners_are at c.in_ok-city.ensures.are;
      ascend = c.in_ok-city.ensures.ascend;
      days = c.in_ok-days.ensures;
      roads = c.in_ok-roads.ensures ∙ ap (flat_map nodes_at) corners_are;
      names = c.in_ok-stop_names.ensures;
      stops = c.in_ok-stops.ensures ∙ ap (city_stop_nodes 0) c.deref-4.ensures.value;
      switches = c.in_ok-switches.ensures;
      arcs = rw (c.deref.ensures.value, corners_are) at c.in_ok-arcs.ensures.arcs;
      links = rw (c.deref.ensures.value, c.deref-2.ensures.value) at c.in_ok-arcs.ensures.links;
      trips = c.in_ok-trips.ensures ∙ ap (city_trips n) c.deref-3.ensures.value;
    }

pub returns-clause-parts : goal.returns-clause-parts
returns-clause-parts c = city_parts c.args.n _ c.requires.size (returns-clause-city c)
