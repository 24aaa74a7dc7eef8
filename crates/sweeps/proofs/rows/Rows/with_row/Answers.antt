use Rattle.plan_base.proofs.Common.{◌≡◌, ◌++◌, ◌∙◌, ap, arith, length, length_push, rules}
use Rattle.sweeps.proofs.RowLemmas.{row_comes, row_stays}
use Rattle.sweeps.proofs.rows.Rows.with_row.Goals as goal

pub returns : goal.returns
returns c =
    let rows = c.args.self in
    let bounds = rows.bounds.items in
    let legs = rows.legs.items in
    let row = c.args.row.now in
    let more_bounds = c.in_ok-push.ensures.items in
    let more_legs = c.in_ok-extend_from_slice.ensures.items in
    let all : c.in-Ok.end ≡ length c.extend_from_slice.new.self.items = search rules in
    let end : c.in-Ok.end ≡ length (legs ++ row) = all ∙ ap length more_legs in
    record {
      count = omega (arith, ap length more_bounds, length_push bounds c.in-Ok.end, rows.bounded.some);
      kept = λ i lt. rw (more_bounds, more_legs) (row_stays bounds legs row c.in-Ok.end rows.bounded end i lt);
      last = rw (more_bounds, more_legs) (row_comes bounds legs row c.in-Ok.end rows.bounded end);
    }
