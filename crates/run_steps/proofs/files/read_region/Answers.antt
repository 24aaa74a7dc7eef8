use Rattle.run_steps.proofs.Steps.{region_refused}
use Rattle.run_steps.proofs.files.read_region.Goals as goal

pub returns-clause-err : goal.returns-clause-err
returns-clause-err g c =
    rw c.refused_region.ensures
    (region_refused c.args.caps.now (g.F.Shelf.meaning c.args.shelf.now) (g.F.Shelf.meaning c.read_file.new.shelf) c.args.name.now c.in_ok-bytes.bytes.items
    c.in_ok-bytes.ensures.ok c.in-Err.fault (rw c.deref.ensures.value at c.in-Err.ensures.none))
