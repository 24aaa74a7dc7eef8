-- The greatest limits. Every other statement of a limit cites these.
use Rattle.std.specs.Prelude.{ℕ}
use Rattle.plan_base.specs.{declared.limits.Kind.Kind, declared.limits.Kind.TheVariants.Nodes, declared.limits.Kind.TheVariants.Arcs, declared.limits.Kind.TheVariants.Links, declared.limits.Kind.TheVariants.Stops, declared.limits.Kind.TheVariants.Trips, declared.limits.Kind.TheVariants.Calls, declared.limits.Kind.TheVariants.OsmNodes, declared.limits.Kind.TheVariants.Ways, declared.limits.Kind.TheVariants.Refs, declared.limits.Kind.TheVariants.Routes, declared.limits.Kind.TheVariants.Services, declared.limits.Kind.TheVariants.Dates}

-- the greatest limit of things of this kind
abbrev pub full_cap_of : Kind → ℕ
full_cap_of Nodes = 16777216
full_cap_of Arcs = 67108864
full_cap_of Links = 8388608
full_cap_of Stops = 1048576
full_cap_of Trips = 1048576
full_cap_of Calls = 33554432
full_cap_of OsmNodes = 33554432
full_cap_of Ways = 8388608
full_cap_of Refs = 67108864
full_cap_of Routes = 1048576
full_cap_of Services = 1048576
full_cap_of Dates = 16777216
