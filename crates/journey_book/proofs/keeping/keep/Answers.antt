use Rattle.plan_base.proofs.Common.{inl, inr, err_from_is_err_and}
use Rattle.plan_base.proofs.MoreWritten.{stays_so as unwritten}
use Rattle.journey_book.proofs.KeeperLemmas.{stays_so}
use Rattle.journey_book.proofs.keeping.keep.Goals as goal

pub returns-in_err-network : goal.returns-in_err-network
returns-in_err-network g c =
    let p = err_from_is_err_and c.from_residual.result c.from_residual.ensures.1 in
    rw (p.1, p.2) (inl (c.in_err-network.ensures.err, (unwritten (g.O.Sink.meaning c.args.ports.now.out), stays_so (g.K.Keeper.meaning c.args.keeper.now))))

pub returns : goal.returns
returns g c = inr (_, _, _, c.in_ok-network.ensures.ok, rw c.as_ref.ensures.value at c.keep_over.ensures)
