use Rattle.plan_base.proofs.Common.{◌<◌, length, arith, take_more}
use Rattle.road_profile.proofs.PlaceLaws.{place_at-push}
use Rattle.road_profile.proofs.places.places_of.Goals as goal

pub loop-node-preserved : goal.loop-node-preserved
loop-node-preserved c = λ id.
    let there : c.loop-node.node-index < length c.args.nodes.now = omega arith in
    let more = take_more c.args.nodes.now c.loop-node.node-index c.node-item.result there in
    rw (more, ← c.node-item.is, place_at-push, ← c.loop-node.invariant id) (c.in_ok-add_place.ensures id)
