use Rattle.plan_base.proofs.Common.{inl, inr, err_from_is_err_and}
use Rattle.plan_base.proofs.MoreWritten.{stays_so as unwritten}
use Rattle.journey_book.proofs.KeeperLemmas.{stays_so}
use Rattle.journey_book.proofs.keeping.keep_over.Goals as goal

pub returns-in_err-bytes : goal.returns-in_err-bytes
returns-in_err-bytes g c =
    let p = err_from_is_err_and c.from_residual.result c.from_residual.ensures.1 in
    rw (p.1, p.2) (inl (c.in_err-bytes.ensures.err, (unwritten (g.O.Sink.meaning c.args.ports.now.out), stays_so (g.K.Keeper.meaning c.args.keeper.now))))

pub returns : goal.returns
returns g c =
    let mid = g.F.Shelf.meaning c.read_valid.new.shelf in
    let out = g.O.Sink.meaning c.args.ports.now.out in
    inr (c.in_ok-bytes.bytes.items, mid, c.in_ok-bytes.ensures.ok, rw c.as_slice.ensures.value at (c.put.ensures mid out))
