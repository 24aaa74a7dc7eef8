use Rattle.plan_base.proofs.Common.{get_or_from_slice_get, slice_get_within}
use Rattle.mode_network.specs.{nodes_of}
use Rattle.region_file.specs.inside.{node_in}
use Rattle.region_file.proofs.Encoded.{text_more}
use Rattle.region_file.proofs.encoding.push_nodes.Goals as goal

pub loop-v-preserved : goal.loop-v-preserved
loop-v-preserved c =
    let nodes = nodes_of c.args.network.now in
    let node = c.node.result in
    let within = slice_get_within nodes c.loop-v.v node c.node.ensures in
    let is = get_or_from_slice_get nodes c.loop-v.v node node c.node.ensures in
    text_more nodes c.loop-v.v node within is (node_in c.args.format c.args.network.now.stop_names) _ _ _ c.loop-v.invariant c.in_ok-push_node.ensures
