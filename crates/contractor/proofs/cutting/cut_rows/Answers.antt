use Rattle.plan_base.proofs.Common.{◌∙◌, ◌<◌, not, nat_eq, length, get_or, refl, ap, sym, arith, filter}
use Rattle.witness.specs.{Edge}
use Rattle.contractor.proofs.{RowLemmas.row_read, CutLemmas.cut_more}
use Rattle.contractor.proofs.cutting.cut_rows.Goals as goal

pub nodes-preserved : goal.nodes-preserved
nodes-preserved c =
    let i = c.nodes.invariant in
    let u = get_or c.args.before.now c.nodes.u-index 0 in
    let low : u < length c.nodes.rows.items = omega (arith, i.count, c.requires c.nodes.u-index 0 c.nodes-test.true) in
    cut_more c.args.x c.args.before.now c.nodes.u-index u c.args.rows.now.items c.nodes.rows.items c.leave_out.new.row c.nodes-test.true refl low
    (c.leave_out.ensures ∙ ap (filter (λ (e : Edge). not (nat_eq e.to c.args.x))) (sym (row_read c.nodes.rows.items u c.index_mut.result.now low c.index_mut.ensures.value))) i
