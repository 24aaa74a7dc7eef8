use Rattle.region_build.proofs.CopyLaws.{departs}
use Rattle.region_build.proofs.headways.push_leaves.Goals as goal

pub loop-most-preserved : goal.loop-most-preserved
loop-most-preserved c = departs c.loop-most.times.items c.push.new.self.items _ c.loop-most.most c.loop-most.leave c.min-end.result c.from-headway.result c.loop-most-test.true c.if-leave-end.true c.in_ok-push.ensures.items c.loop-most.invariant
