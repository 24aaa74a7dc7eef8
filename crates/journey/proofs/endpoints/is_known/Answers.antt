use Rattle.mode_network.specs.{IsCopy}
use Rattle.journey.proofs.QueryLemmas.{some_exactly}
use Rattle.journey.proofs.endpoints.is_known.Goals as goal

pub returns : goal.returns
returns c = rw c.is_some.ensures (some_exactly (IsCopy c.args.network.now c.args.endpoint.now) _ c.copies.ensures)
