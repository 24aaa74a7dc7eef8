use Rattle.plan_base.proofs.Common.{All-push}
use Rattle.timetable_arcs.specs.{plain_table, inside.IsPattern}
use Rattle.timetable_arcs.proofs.PatternLemmas.{put_behind, put_first, sum_behind}
use Rattle.timetable_arcs.proofs.patterns.put.Goals as goal

pub returns-in_ok-push-in-Some-clause-are : goal.returns-in_ok-push-in-Some-clause-are
returns-in_ok-push-in-Some-clause-are c =
    put_behind (plain_table c.args.given.now.bases.now c.args.given.now.trips.now) c.args.patterns.now.items c.in-Some.pattern c.index_mut.result.now c.push.new.self c.args.run
    c.requires.are (rw (← c.deref.ensures.value) c.in-Some.ensures.within) c.index_mut.ensures.value (rw (← c.deref.ensures.value) c.in-Some.ensures.follows) c.in_ok-push-in-Some.ensures

pub returns-in_ok-push-in-Some-clause-one_more : goal.returns-in_ok-push-in-Some-clause-one_more
returns-in_ok-push-in-Some-clause-one_more c =
    sum_behind c.args.patterns.now.items c.in-Some.pattern c.index_mut.result.now c.push.new.self c.args.run (rw (← c.deref.ensures.value) c.in-Some.ensures.within) c.index_mut.ensures.value c.in_ok-push-in-Some.ensures

pub returns-in_ok-push-in-None-clause-are : goal.returns-in_ok-push-in-None-clause-are
returns-in_ok-push-in-None-clause-are c =
    rw c.in_ok-push-in-None.ensures.items
    (All-push (IsPattern (plain_table c.args.given.now.bases.now c.args.given.now.trips.now)) c.args.patterns.now.items _ c.requires.are
    (put_first (plain_table c.args.given.now.bases.now c.args.given.now.trips.now) c.args.run _ c.in_ok-of-in-None.ensures))
