-- What the fields of a network show, and what they keep.
use Rattle.std.specs.Prelude.{◌≡◌, map}
use Rattle.mode_network.specs.{declared.network.Network.TheInside.Inside, NetworkLists.NetworkLists, Rules.IsNetwork, Timetables.IsTimetableOf, Indexes.AreIndexes, Indexes.leg_of, Copies.road_points, Points.HoldSame}

abbrev pub lists_of : Inside → NetworkLists
lists_of n = record {
  days = n.days;
  roads = n.roads.items;
  stop_names = n.stop_names.items;
  stops = n.stops.items;
  switches = n.switches.items;
  arcs = n.arcs.items;
  links = n.links.items;
  trips = n.timetable.trips;
}

pub record IsKept (n : Inside) : Type 0 where
  pub rules : IsNetwork (lists_of n)
  pub timetable : IsTimetableOf (lists_of n) n.timetable
  pub indexes : AreIndexes (lists_of n) n.rows.items n.linked.items
  pub legs : n.legs.items ≡ map leg_of n.arcs.items
  pub grid : HoldSame n.grid (road_points n.roads.items)
