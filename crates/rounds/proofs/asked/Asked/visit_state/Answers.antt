use Rattle.plan_base.proofs.Common.{arith, or_parts}
use Rattle.rounds.specs.inside.{asked_of}
use Rattle.rounds.proofs.RowLemmas.{lowered_then}
use Rattle.rounds.proofs.VisitLemmas.{IsAny, crossing_more, taken_then}
use Rattle.rounds.proofs.asked.Asked.visit_state.Goals as goal

pub loop-crossing-preserved : goal.loop-crossing-preserved
loop-crossing-preserved g c =
    let a = asked_of {l = g.L.Labels} c.args.self.now in
    let old = c.loop-crossing.rows.items in
    let new = c.visit_if_sooner.new.rows.items in
    let visits = c.loop-crossing.visits.items in
    let noted = c.visit_if_sooner.new.visits.items in
    let changed = c.loop-crossing.changed in
    let crossed = c.in-Some.crossed in
    let before = c.loop-crossing.invariant in
    let done = rw c.in-Some.is at c.in_ok-crossed.ensures in
    record {
      visiting = done.visiting;
      taken = taken_then a c.args.rows.now.items old new changed crossed _ (or_parts changed crossed) before.taken done.taken;
      lowered = lowered_then IsAny c.args.visits.now.items visits noted before.lowered done.lowered;
      all = crossing_more a old new visits noted changed crossed done.taken done.lowered done.visiting.visited c.args.state c.loop-crossing.crossing c.requires.state (omega (arith, c.loop-crossing-test.true, c.len-crossing-end.ensures, a.rounds.few)) before.all done.here;
    }
