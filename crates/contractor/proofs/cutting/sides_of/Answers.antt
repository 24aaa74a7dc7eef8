use Rattle.plan_base.proofs.Common.{◌∙◌, get_or, refl, sym}
use Rattle.contractor.proofs.{RowLemmas.row_read, CutLemmas.sides_more}
use Rattle.contractor.proofs.cutting.sides_of.Goals as goal

pub nodes-preserved : goal.nodes-preserved
nodes-preserved c =
    let u = get_or c.args.before.now c.nodes.u-index 0 in
    sides_more c.args.rows.now c.args.x c.args.before.now c.nodes.u-index u c.nodes.sides.items c.push_sides.new.sides.items c.deref.result.now c.nodes-test.true refl
    (c.deref.ensures.value ∙ sym (row_read c.args.rows.now u c.index-rows-u.result (c.requires c.nodes.u-index 0 c.nodes-test.true) c.index-rows-u.is))
    c.in_ok-push_sides.ensures c.nodes.invariant
