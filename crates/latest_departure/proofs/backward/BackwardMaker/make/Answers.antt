use Rattle.automaton.specs.{position_meaning}
use Rattle.latest_departure.proofs.LateLemmas.{few_moves}
use Rattle.latest_departure.proofs.backward.BackwardMaker.make.Goals as goal

pub of-requires-2 : goal.of-requires-2
of-requires-2 c = few_moves (position_meaning c.in_ok-positions.positions) c.in_ok-positions.ensures.few_states c.in_ok-positions.ensures.few_moves
