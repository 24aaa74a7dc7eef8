use Rattle.plan_base.proofs.Common.{◌≡◌, map, range_with_len}
use Rattle.latest_departure.specs.{turned_state, view_of}
use Rattle.latest_departure.proofs.reversed.turned_states.Given as goal

abbrev pub invariant-loop-r : goal.invariant-loop-r
invariant-loop-r g l = map view_of l.states.items ≡ map (turned_state (g.L.Labels.automaton l.inner)) (range_with_len 0 l.r)
