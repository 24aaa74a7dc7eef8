use Rattle.plan_base.proofs.Common.{◌≡◌, ◌++◌}
use Rattle.latest_departure.specs.{turned_from}
use Rattle.latest_departure.proofs.reversed.push_turned.Given as goal

abbrev pub invariant-loop-i : goal.invariant-loop-i
invariant-loop-i g l = l.moves.items ≡ l.initial.moves.items ++ turned_from (g.L.Labels.automaton l.inner) l.r l.q l.i
