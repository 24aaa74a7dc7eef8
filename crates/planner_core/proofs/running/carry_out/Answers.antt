use Rattle.planner_core.proofs.running.carry_out.Goals as goal

pub returns-in-Sample : goal.returns-in-Sample
returns-in-Sample g c =
    let shelf = g.F.Shelf.meaning c.args.ports.now.shelf in
    rw c.in-Sample.is (c.sample.ensures shelf shelf)
