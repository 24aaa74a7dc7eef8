use Rattle.plan_base.proofs.Common.{◌≡◌, ◌+◌, ap, arith, length, slice_index}
use Rattle.std.proofs.lemmas.List.{get_or_read}
use Rattle.sweeps.proofs.RowLemmas.{within}
use Rattle.sweeps.proofs.rows.Rows.row.Goals as goal

pub slice_bounds-result-end : goal.slice_bounds-result-end
slice_bounds-result-end c =
    let rows = c.args.self.now in
    let bounds = rows.bounds.items in
    let some = rows.bounded.some in
    let end : c.index-2.result.now ≡ slice_index bounds (c.args.i + 1) = get_or_read bounds _ _ (omega arith) c.index-2.ensures 0 in
    omega (arith, end, ap length c.deref.ensures.value, within bounds (length rows.legs.items) rows.bounded (c.args.i + 1) (omega arith))
