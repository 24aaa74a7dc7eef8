use Rattle.std.specs.Prelude.{ℕ}
pub use Rattle.plan_base.specs.{declared.limits.Caps.Caps, declared.limits.Kind.Kind, declared.limits.Kind.TheVariants.Nodes, declared.limits.Kind.TheVariants.Arcs, declared.limits.Kind.TheVariants.Links, declared.limits.Kind.TheVariants.Stops, declared.limits.Kind.TheVariants.Trips, declared.limits.Kind.TheVariants.Calls, declared.limits.Kind.TheVariants.OsmNodes, declared.limits.Kind.TheVariants.Ways, declared.limits.Kind.TheVariants.Refs, declared.limits.Kind.TheVariants.Routes, declared.limits.Kind.TheVariants.Services, declared.limits.Kind.TheVariants.Dates}

-- the limit of things of this kind
abbrev pub cap_of : Caps → Kind → ℕ
cap_of caps Nodes = caps.nodes
cap_of caps Arcs = caps.arcs
cap_of caps Links = caps.links
cap_of caps Stops = caps.stops
cap_of caps Trips = caps.trips
cap_of caps Calls = caps.calls
cap_of caps OsmNodes = caps.osm_nodes
cap_of caps Ways = caps.ways
cap_of caps Refs = caps.refs
cap_of caps Routes = caps.routes
cap_of caps Services = caps.services
cap_of caps Dates = caps.dates
