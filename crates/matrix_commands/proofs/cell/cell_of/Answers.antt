use Rattle.plan_base.proofs.Common.{inr}
use Rattle.journey.specs.{asked_by}
use Rattle.matrix_commands.proofs.CellLemmas.{timed_right}
use Rattle.matrix_commands.proofs.cell.cell_of.Goals as goal

pub returns : goal.returns
returns c =
    let right = timed_right c.args.network.now c.args.line.now (asked_by c.in-Ok.query) c.in_ok-arrival.arrival c.in-Ok.ensures.query c.in_ok-arrival.ensures in
    rw c.timed.ensures (inr (rw c.in_default.is at c.in_ok-places.ensures, right))
