use Rattle.plan_base.proofs.Common.{◌∙◌, subst, err_from_is_err_and}
use Rattle.csv.specs.Records.{fields_of}
use Rattle.gtfs_tables.specs.inside.{TakesRow}
use Rattle.gtfs_tables.proofs.TableLemmas.{goes_on, halts}
use Rattle.gtfs_tables.proofs.tables.take_rows.Goals as goal

pub returns-in_err-take-clause-rows : goal.returns-in_err-take-clause-rows
returns-in_err-take-clause-rows g c =
    let p = err_from_is_err_and c.from_residual-in_err-take.result c.from_residual-in_err-take.ensures.1 in
    let table = g.T.TakesRows.table c.args.table.now in
    let keeps = g.T.TakesRows.keeps c.loop-fields.table in
    let next = (rw c.in_ok-number.ensures.ok_part at c.checked_add.ensures).1 in
    let faults = subst (λ t. TakesRow t c.new-row.result keeps (g.T.TakesRows.keeps c.take-in-Some.new.self) c.take-in-Some.result) c.loop-fields.invariant.same c.take-in-Some.ensures.row in
    rw (p.1, p.2) (halts table c.args.header.now c.args.rows.now c.loop-fields.rows c.take.new.self (fields_of c.in-Some.fields) c.loop-fields.number c.in_ok-number.number c.args.file keeps
    c.loop-fields.invariant.way (rw c.in-Some.is at c.in_ok-fields.ensures) c.requires.file next c.new-row.result c.new-row.ensures c.in_err-take.field-0.0 (rw c.in_err-take.was at faults))

pub loop-fields-preserved : goal.loop-fields-preserved
loop-fields-preserved g c =
    let table = g.T.TakesRows.table c.args.table.now in
    let keeps = g.T.TakesRows.keeps c.loop-fields.table in
    let next = (rw c.in_ok-number.ensures.ok_part at c.checked_add.ensures).1 in
    let takes = subst (λ t. TakesRow t c.new-row.result keeps (g.T.TakesRows.keeps c.take-in-Some.new.self) c.take-in-Some.result) c.loop-fields.invariant.same c.take-in-Some.ensures.row in
    record {
      same = c.in_ok-take.ensures.table ∙ c.loop-fields.invariant.same;
      way = goes_on table c.args.header.now c.args.rows.now c.loop-fields.rows c.take.new.self (fields_of c.in-Some.fields) c.loop-fields.number c.in_ok-number.number c.args.file keeps
          c.loop-fields.invariant.way (rw c.in-Some.is at c.in_ok-fields.ensures) c.requires.file next c.new-row.result c.new-row.ensures (g.T.TakesRows.keeps c.take-in-Some.new.self) (rw c.in_ok-take.was at takes);
    }
