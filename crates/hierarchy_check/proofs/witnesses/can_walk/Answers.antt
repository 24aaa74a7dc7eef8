use Rattle.plan_base.proofs.Common.{◌+◌, drop, get_or, drop_more}
use Rattle.hierarchy_check.proofs.EntryLemmas.{no_walk, walk_on, both_ways}
use Rattle.hierarchy_check.proofs.witnesses.can_walk.Goals as goal

pub returns-in_default : goal.returns-in_default
returns-in_default c =
    let nodes = c.args.nodes.now in
    let rest = drop_more nodes c.loop-y.y-index 0 c.loop-y-test.true in
    let none = no_walk c.args.h.now c.args.x c.loop-y.at (get_or nodes c.loop-y.y-index 0) (drop (c.loop-y.y-index + 1) nodes) c.loop-y.left c.in_default.ensures in
    both_ways (rw rest none) c.loop-y.invariant

pub loop-y-preserved : goal.loop-y-preserved
loop-y-preserved c =
    let nodes = c.args.nodes.now in
    let rest = drop_more nodes c.loop-y.y-index 0 c.loop-y-test.true in
    let on = walk_on c.args.h.now c.known.ensures.entries_ascend c.args.x c.loop-y.at (get_or nodes c.loop-y.y-index 0) (drop (c.loop-y.y-index + 1) nodes) c.loop-y.left c.in-Some.less c.in-Some.ensures in
    both_ways (rw rest on) c.loop-y.invariant
