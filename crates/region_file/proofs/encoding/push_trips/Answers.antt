use Rattle.plan_base.proofs.Common.{sym}
use Rattle.region_file.specs.inside.{trip_in}
use Rattle.region_file.proofs.Encoded.{text_more}
use Rattle.region_file.proofs.encoding.push_trips.Goals as goal

pub loop-trip-preserved : goal.loop-trip-preserved
loop-trip-preserved c = text_more c.args.trips.now c.loop-trip.trip-index c.trip-item.result c.loop-trip-test.true (sym c.trip-item.is) (trip_in c.args.format) _ _ _ c.loop-trip.invariant c.in_ok-push_trip.ensures
