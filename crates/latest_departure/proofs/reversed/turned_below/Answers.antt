use Rattle.latest_departure.proofs.TurnedLemmas.{below_pushed}
use Rattle.latest_departure.proofs.reversed.turned_below.Goals as goal

pub loop-q-preserved : goal.loop-q-preserved
loop-q-preserved g c =
    below_pushed (g.L.Labels.automaton c.args.inner.now) c.args.r c.loop-q.q c.loop-q.moves.items c.push_turned.new.moves.items c.loop-q.invariant c.in_ok-push_turned.ensures
