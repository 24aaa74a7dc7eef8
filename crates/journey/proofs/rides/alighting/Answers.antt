use Rattle.plan_base.proofs.Common.{◌∙◌, sym}
use Rattle.journey.proofs.RideLemmas.{stop_named}
use Rattle.journey.proofs.rides.alighting.Goals as goal

pub stop_node-requires : goal.stop_node-requires
stop_node-requires c =
    stop_named c.args.network.now c.known.ensures c.trips.result.now c.trips.ensures c.args.trip c.args.alight c.in_ok-letter.letter c.in_ok-letter.stop
    (sym c.letter_and_stop.ensures ∙ c.in_ok-letter.was)
