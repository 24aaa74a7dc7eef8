use Rattle.plan_base.proofs.Common.{◌≡◌, ◌++◌}
use Rattle.region_build.specs.{departing}
use Rattle.region_build.proofs.headways.push_leaves.Given as goal

abbrev pub decreases-loop-most : goal.decreases-loop-most
decreases-loop-most l = l.most

abbrev pub invariant-loop-most : goal.invariant-loop-most
invariant-loop-most l = l.times.items ++ departing l.most l.leave l.end l.headway ≡ l.initial.times.items ++ departing l.initial.most l.initial.leave l.end l.headway
