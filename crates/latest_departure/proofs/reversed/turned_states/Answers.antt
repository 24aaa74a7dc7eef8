use Rattle.latest_departure.proofs.TurnedLemmas.{states_pushed}
use Rattle.latest_departure.proofs.reversed.turned_states.Goals as goal

pub loop-r-preserved : goal.loop-r-preserved
loop-r-preserved g c =
    states_pushed (g.L.Labels.automaton c.args.inner.now) c.loop-r.r c.loop-r.states.items c.push.new.self.items _ c.loop-r.invariant c.in_ok-turned_state.ensures c.in_ok-push.ensures.items
