use Rattle.answer_commands.proofs.{BothLemmas.both_end, BothLemmas.on_both}
use Rattle.answer_commands.proofs.verifying.verify.Goals as goal

pub returns-in_err-network : goal.returns-in_err-network
returns-in_err-network g c = both_end _ _ c.from_residual.ensures.1 c.in_err-network.ensures.err

pub returns : goal.returns
returns g c = on_both _ c.in_ok-network.ensures.ok (rw c.as_ref.ensures.value at c.verify_over.ensures)
