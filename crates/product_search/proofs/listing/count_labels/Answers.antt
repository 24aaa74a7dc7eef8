use Rattle.plan_base.proofs.Common.{◌+◌, nat_lt, length, get_or, ◌∙◌, ap, arith}
use Rattle.product_search.specs.{declared.row.Row.Row, label_of, inside.rows, inside.label_of_row}
use Rattle.product_search.proofs.ListingLemmas.{counts_more, gives_all, one_if, one_at_most, few_so_far}
use Rattle.product_search.proofs.listing.count_labels.Goals as goal

abbrev no_row : Row
no_row = record { node = 0; state = 0; next = 0; way = 0; delay = 0 }

pub overflow_add-count : goal.overflow_add-count
overflow_add-count c =
    let few = few_so_far (label_of_row c.args.frontier.now.base c.args.until) (rows c.args.frontier.now) c.deref-row-items.result.now
    c.deref-row-items.ensures.value c.loop-row.row-index (omega arith) in
    omega (arith, few, one_at_most (nat_lt (get_or c.deref-row-items.result.now c.loop-row.row-index no_row).delay c.args.until))

pub loop-row-preserved : goal.loop-row-preserved
loop-row-preserved c =
    let h = label_of_row c.args.frontier.now.base c.args.until in
    let row : Row = get_or c.deref-row-items.result.now c.loop-row.row-index no_row in
    let one = one_if (nat_lt row.delay c.args.until) (label_of row.node row.state (c.args.frontier.now.base + row.delay)) in
    let more = counts_more h (rows c.args.frontier.now) c.loop-row.row-index no_row c.deref-row-items.result.now c.deref-row-items.ensures.value c.loop-row-test.true in
    omega (arith, one, more)

pub returns : goal.returns
returns c = c.loop-row.invariant ∙ ap length (gives_all (label_of_row c.args.frontier.now.base c.args.until) (rows c.args.frontier.now) c.loop-row.row-index
    c.deref-row-items.result.now c.deref-row-items.ensures.value c.loop-row-test.false)
