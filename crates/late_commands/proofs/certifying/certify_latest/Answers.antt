use Rattle.run_steps.proofs.Steps.{on_region}
use Rattle.run_steps.specs.{WritesText}
use Rattle.late_commands.specs.{IsLateCertified}
use Rattle.late_commands.proofs.certifying.certify_latest.Goals as goal

pub returns : goal.returns
returns g c =
    let new = g.F.Shelf.meaning c.read_region.new.shelf in
    on_region (g.F.Shelf.meaning c.args.ports.now.shelf) new new (g.O.Sink.meaning c.args.ports.now.out) (g.O.Sink.meaning c.write_certified.new.out) c.args.region.now
    c.args.caps.now (λ n. WritesText (IsLateCertified n c.args.limits c.args.query.now)) c.in_ok-network.network c.in_ok-network.ensures.ok c.in_ok-network.ensures.later _
    (rw c.as_bytes.ensures.value at c.write_certified.ensures new new)
