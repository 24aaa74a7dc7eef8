use Rattle.region_file.specs.{many, trip_read}
use Rattle.region_file.proofs.LoopLemmas.{goes_on, is_done, passes_on}
use Rattle.region_file.proofs.reading.trips_of.Goals as goal

pub loop-preserved : goal.loop-preserved
loop-preserved c =
    let next = goes_on trip_read c.loop.trips.items c.args.count c.loop.counter c.loop.rest.now c.in-Ok.trip c.in-Ok.behind.now
    (many trip_read c.args.count c.args.bytes.now) c.loop-test.true c.in-Ok.ensures c.loop.invariant in
    rw c.in_ok-push-in-Ok.ensures.items next

pub returns : goal.returns
returns c = is_done trip_read c.loop.trips.items c.args.count c.loop.counter c.loop.rest.now (many trip_read c.args.count c.args.bytes.now) c.loop-test.false c.loop.invariant

pub returns-in-Err : goal.returns-in-Err
returns-in-Err c =
    passes_on trip_read c.loop.trips.items c.args.count c.loop.counter c.loop.rest.now (many trip_read c.args.count c.args.bytes.now) c.loop-test.true c.loop.invariant c.in-Err.halt c.in-Err.ensures
