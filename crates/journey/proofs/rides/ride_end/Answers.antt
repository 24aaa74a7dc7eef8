use Rattle.plan_base.proofs.Common.{arith}
use Rattle.journey.proofs.RideLemmas.{allowed_there, no_ride}
use Rattle.journey.proofs.rides.ride_end.Goals as goal

pub returns-in_err-ride : goal.returns-in_err-ride
returns-in_err-ride c =
    rw c.from_residual.ensures (no_ride c.args.network.now c.trips.result.now c.trips.ensures c.args.v c.args.t c.args.named c.in_err-ride.ensures)

pub clock_at-departure-requires : goal.clock_at-departure-requires
clock_at-departure-requires c =
    rw c.days.ensures (allowed_there c.args.network.now c.keeps_rules.ensures c.trips.result.now c.trips.ensures c.args.named c.in_ok-ride.ride c.in_ok-ride.ensures).day_there

pub stop_node-requires : goal.stop_node-requires
stop_node-requires c =
    let there = allowed_there c.args.network.now c.keeps_rules.ensures c.trips.result.now c.trips.ensures c.args.named c.in_ok-ride.ride c.in_ok-ride.ensures in
    omega (arith, there.on, there.off)

pub stop_node-requires-2 : goal.stop_node-requires-2
stop_node-requires-2 c =
    let there = allowed_there c.args.network.now c.keeps_rules.ensures c.trips.result.now c.trips.ensures c.args.named c.in_ok-ride.ride c.in_ok-ride.ensures in
    omega (arith, there.on, there.off)

pub clock_at-requires : goal.clock_at-requires
clock_at-requires c =
    rw c.days-2.ensures (allowed_there c.args.network.now c.keeps_rules.ensures c.trips.result.now c.trips.ensures c.args.named c.in_ok-ride.ride c.in_ok-ride.ensures).day_there
