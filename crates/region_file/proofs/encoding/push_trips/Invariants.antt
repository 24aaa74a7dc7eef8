use Rattle.plan_base.proofs.Common.{◌≡◌, ◌++◌, take, flat_map}
use Rattle.region_file.specs.inside.{trip_in}
use Rattle.region_file.proofs.encoding.push_trips.Given as goal

abbrev pub invariant-loop-trip : goal.invariant-loop-trip
invariant-loop-trip l = l.out.items ≡ l.fn.out.items ++ flat_map (trip_in l.format) (take l.trip-index l.trips)
