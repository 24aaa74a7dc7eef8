use Rattle.plan_base.proofs.Common.{inl, inr, sym, subst, err_from_is_err_and}
use Rattle.plan_base.specs.{HasRead}
use Rattle.plan_base.proofs.MoreWritten.{stays_so}
use Rattle.run_steps.specs.{most_bytes}
use Rattle.matrix_commands.proofs.tabulating.write_table.Goals as goal

pub returns-in_err-bytes : goal.returns-in_err-bytes
returns-in_err-bytes g c =
    let p = err_from_is_err_and c.from_residual.result c.from_residual.ensures.1 in
    rw (p.1, p.2) (inl (c.in_err-bytes.ensures.err, stays_so (g.O.Sink.meaning c.args.ports.now.out)))

pub returns : goal.returns
returns g c =
    inr (record {
      bytes = c.deref.result.now;
      file = subst (HasRead (g.F.Shelf.meaning c.args.ports.now.shelf) c.args.files.now.destinations.now most_bytes) (sym c.deref.ensures.value) c.in_ok-bytes.ensures.ok;
      mid = g.F.Shelf.meaning c.read_file.new.shelf;
      later = c.in_ok-bytes.ensures.later;
      says = c.write_rows.ensures;
    })
