use Rattle.plan_base.proofs.Common.{arith, or_parts}
use Rattle.rounds.specs.inside.{asked_of}
use Rattle.rounds.proofs.VisitLemmas.{state_more, taken_then}
use Rattle.rounds.proofs.asked.Asked.visit_all.Goals as goal

pub loop-state-preserved : goal.loop-state-preserved
loop-state-preserved g c =
    let a = asked_of {l = g.L.Labels} c.args.self.now in
    let old = c.loop-state.rows.items in
    let new = c.visit_state.new.rows.items in
    let visits = c.loop-state.visits.items in
    let noted = c.visit_state.new.visits.items in
    let changed = c.loop-state.changed in
    let crossed = c.in-Some.crossed in
    let before = c.loop-state.invariant in
    let done = rw c.in-Some.is at c.in_ok-crossed.ensures in
    record {
      visiting = done.visiting;
      taken = taken_then a c.args.rows.now.items old new changed crossed _ (or_parts changed crossed) before.taken done.taken;
      all = state_more a old new visits noted changed crossed done.taken done.lowered done.visiting.visited c.loop-state.state (omega (arith, c.loop-state-test.true, c.states-state-end.ensures)) before.all done.all;
    }
