use Rattle.automaton.proofs.AcceptLemmas.{positions_accept, collapsed_accept}
use Rattle.automaton.proofs.laws.positions_accept.Goals as goal

pub returns-clause-accepts : goal.returns-clause-accepts
returns-clause-accepts c = positions_accept

pub returns-clause-collapsed : goal.returns-clause-collapsed
returns-clause-collapsed c = collapsed_accept
