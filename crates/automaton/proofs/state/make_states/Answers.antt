use Rattle.plan_base.proofs.Common.{map}
use Rattle.automaton.specs.{inside.has, view_of}
use Rattle.automaton.proofs.StateLemmas.{states_made}
use Rattle.automaton.proofs.state.make_states.Goals as goal

pub returns : goal.returns
returns c =
    states_made c.args.drafts.now (has c.args.first) (map view_of c.loop-draft.states.items) c.loop-draft.draft-index c.loop-draft-test.false c.loop-draft.invariant
