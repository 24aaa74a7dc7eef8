use Rattle.std.specs.Prelude.{ℕ, ◌≤◌}
use Rattle.plan_base.specs.{declared.limits.Kind.TheVariants.Nodes, declared.limits.Kind.TheVariants.Arcs, declared.limits.Kind.TheVariants.Links, declared.limits.Kind.TheVariants.Stops, declared.limits.Kind.TheVariants.Trips, declared.limits.Kind.TheVariants.Calls, declared.limits.Kind.TheVariants.OsmNodes, declared.limits.Kind.TheVariants.Ways, declared.limits.Kind.TheVariants.Refs, declared.limits.Kind.TheVariants.Routes, declared.limits.Kind.TheVariants.Services, declared.limits.Kind.TheVariants.Dates, FullCaps.full_cap_of}

-- no limit is above the greatest one of its kind
pub record AreWithin (nodes arcs links stops trips calls osm_nodes ways refs routes services dates : ℕ) : Type 0 where
  pub nodes_within : nodes ≤ full_cap_of Nodes
  pub arcs_within : arcs ≤ full_cap_of Arcs
  pub links_within : links ≤ full_cap_of Links
  pub stops_within : stops ≤ full_cap_of Stops
  pub trips_within : trips ≤ full_cap_of Trips
  pub calls_within : calls ≤ full_cap_of Calls
  pub osm_nodes_within : osm_nodes ≤ full_cap_of OsmNodes
  pub ways_within : ways ≤ full_cap_of Ways
  pub refs_within : refs ≤ full_cap_of Refs
  pub routes_within : routes ≤ full_cap_of Routes
  pub services_within : services ≤ full_cap_of Services
  pub dates_within : dates ≤ full_cap_of Dates
