use Rattle.plan_base.proofs.Common.{◌≡◌}
use Rattle.latest_departure.specs.{turned_below}
use Rattle.latest_departure.proofs.reversed.turned_below.Given as goal

abbrev pub invariant-loop-q : goal.invariant-loop-q
invariant-loop-q g l = l.moves.items ≡ turned_below (g.L.Labels.automaton l.inner) l.r l.q
