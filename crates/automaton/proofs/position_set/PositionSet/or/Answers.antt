use Rattle.automaton.proofs.SetLemmas.{has-or}
use Rattle.automaton.proofs.position_set.PositionSet.or.Goals as goal

pub returns : goal.returns
returns c = has-or c.args.self c.args.other
