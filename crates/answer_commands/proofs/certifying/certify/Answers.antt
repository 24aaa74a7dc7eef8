use Rattle.answer_commands.proofs.{BothLemmas.both_end, BothLemmas.on_both}
use Rattle.answer_commands.proofs.certifying.certify.Goals as goal

pub returns-in_err-network : goal.returns-in_err-network
returns-in_err-network g c = both_end _ _ c.from_residual.ensures.1 c.in_err-network.ensures.err

pub returns : goal.returns
returns g c =
    let mid = g.F.Shelf.meaning c.read_both.new.shelf in
    on_both _ c.in_ok-network.ensures.ok (rw (c.as_ref.ensures.value, c.as_bytes-line.ensures.value) at c.write_certified.ensures mid mid)
