use Rattle.run_steps.proofs.Steps.{on_region}
use Rattle.compile_commands.proofs.compiling.migrate.Goals as goal

pub returns : goal.returns
returns g c =
    let new = g.F.Shelf.meaning c.read_region.new.shelf in
    let n = c.in_ok-network.network in
    let has = c.in_ok-network.ensures.ok in
    on_region (g.F.Shelf.meaning c.args.ports.now.shelf) new new (g.O.Sink.meaning c.args.ports.now.out) (g.O.Sink.meaning c.write_network.new.out) c.args.region.now
    c.args.caps.now _ n has c.in_ok-network.ensures.later _
    (c.write_network.ensures c.args.caps.now new new has.spells.decoded.faultless)
