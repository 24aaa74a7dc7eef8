use Rattle.plan_base.proofs.Common.{◌∙◌, ℕ, ◌<◌, not, nat_eq, length, get_or, ap, sym, arith, filter}
use Rattle.contractor.proofs.{RowLemmas.into_read, CutLemmas.less_more}
use Rattle.contractor.proofs.cutting.cut_into.Goals as goal

pub after-preserved : goal.after-preserved
after-preserved c =
    let i = c.after.invariant in
    let e = get_or c.args.after.now c.after.edge-index (record { to = 0; entry = 0; weight = 0 }) in
    let low : e.to < length c.after.into.items = omega (arith, i.count, c.requires c.after.edge-index (record { to = 0; entry = 0; weight = 0 }) c.after-test.true) in
    less_more c.args.x e.to c.args.into.now.items c.after.into.items c.leave_out_node.new.nodes low
    (c.leave_out_node.ensures ∙ ap (filter (λ (u : ℕ). not (nat_eq u c.args.x))) (sym (into_read c.after.into.items e.to c.index_mut.result.now low c.index_mut.ensures.value))) i
