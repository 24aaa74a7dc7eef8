use Rattle.plan_base.proofs.Common.{◌≡◌, map}
use Rattle.automaton.specs.{inside.draft_row, inside.has, moves_upto}
use Rattle.automaton.proofs.state.make_moves.Given as goal

abbrev pub invariant-loop-index : goal.invariant-loop-index
invariant-loop-index l = l.moves.items ≡ moves_upto (map draft_row l.drafts) (has l.next) l.index
