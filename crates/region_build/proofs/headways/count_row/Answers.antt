use Rattle.plan_base.proofs.Common.{arith}
use Rattle.region_build.proofs.LeavingLaws.{count_departures, count_leaves}
use Rattle.region_build.proofs.headways.count_row.Goals as goal

pub returns-clause-kept : goal.returns-clause-kept
returns-clause-kept c = let kept = count_leaves c.args.before c.args.row.now c.requires in grind (arith, kept)

pub returns-clause-all : goal.returns-clause-all
returns-clause-all c = let all = count_departures c.args.row.now c.requires in grind (arith, all)
