use Rattle.plan_base.proofs.Common.{get_or, drop_more}
use Rattle.product_search.specs.{Hop}
use Rattle.phase_graph.specs.{marks_in, phase_meaning}
use Rattle.unpack.proofs.PhaseLemmas.{hop_taken, further}
use Rattle.unpack.proofs.phase_walk.steps.Goals as goal

pub loop-hop-preserved : goal.loop-hop-preserved
loop-hop-preserved c =
    let p = c.args.phases.now in
    let n = p.plain.network.now in
    let g = phase_meaning n p.plain.timetable.now p.hierarchy.now (marks_in p.falls.first.items) in
    let hops = c.args.hops.now in
    let k = c.loop-hop.hop-index in
    let zero : Hop = record { arc = 0; to = 0; state = 0; at = 0 } in
    let hop = get_or hops k zero in
    let is = drop_more hops k zero c.loop-hop-test.true in
    let way = c.loop-hop.invariant.way in
    let taken = hop_taken n g c.args.start c.args.at hops k c.loop-hop.p c.loop-hop.time c.loop-hop.steps.items way hop is in
    let done = c.in_ok-push_arc.ensures in
    record {
      way = further n g c.args.start c.args.at hops k c.loop-hop.p c.loop-hop.time c.loop-hop.steps.items way hop c.push_arc.new.steps.items is (done.steps hop.at taken.1);
      none = done.none;
    }
