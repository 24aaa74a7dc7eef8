use Rattle.plan_base.proofs.Common.{map-append, err_from_is_err_and}
use Rattle.gtfs_tables.specs.declared.files.FeedFile.TheVariants as file
use Rattle.run_steps.proofs.Steps.{later_twice}
use Rattle.compile_commands.proofs.FeedLemmas.{memory_at, tables_at, unread_at}
use Rattle.compile_commands.proofs.feeds.read_tables.Goals as goal

pub returns-in_err-text-clause-err : goal.returns-in_err-text-clause-err
returns-in_err-text-clause-err g c =
    let p = err_from_is_err_and c.from_residual.result c.from_residual.ensures.1 in
    let invariant = c.loop-table.invariant in
    rw (p.1, p.2)
    (unread_at (g.F.Shelf.meaning c.args.shelf.now) (g.F.Shelf.meaning c.loop-table.shelf) (g.F.Shelf.meaning c.read_table.new.shelf) invariant.0 c.args.folder.now
    c.args.tables.now c.loop-table.table-index _ c.loop-table-test.true _ invariant.1 _ c.in_err-text.ensures.err)

pub returns-in_err-push-clause-err : goal.returns-in_err-push-clause-err
returns-in_err-push-clause-err g c =
    let p = err_from_is_err_and c.from_residual-in_err-push.result c.from_residual-in_err-push.ensures.1 in
    let invariant = c.loop-table.invariant in
    rw (p.1, p.2)
    (memory_at (g.F.Shelf.meaning c.args.shelf.now) (g.F.Shelf.meaning c.loop-table.shelf) (g.F.Shelf.meaning c.read_table.new.shelf) invariant.0 c.args.folder.now
    c.args.tables.now c.loop-table.table-index file.Agency c.loop-table-test.true _ invariant.1)

pub loop-table-preserved : goal.loop-table-preserved
loop-table-preserved g c =
    let invariant = c.loop-table.invariant in
    let old = g.F.Shelf.meaning c.args.shelf.now in
    let mid = g.F.Shelf.meaning c.loop-table.shelf in (
      later_twice old mid (g.F.Shelf.meaning c.read_table.new.shelf) invariant.0 c.in_ok-text.ensures.later,
      rw (c.in_ok-push.ensures.items, map-append)
          (tables_at old mid (g.F.Shelf.meaning c.read_table.new.shelf) invariant.0 c.args.folder.now c.args.tables.now c.loop-table.table-index _ c.loop-table-test.true _ invariant.1 _
          c.in_ok-text.ensures.ok),
    )
