use Rattle.plan_base.proofs.Common.{◌++◌, ◌∙◌, ap, decimal}
use Rattle.few_boardings.proofs.TextLemmas.{row_told}
use Rattle.few_boardings.proofs.blocks.push_row.Goals as goal

pub returns : goal.returns
returns c =
    row_told c.args.network.now c.args.row.now c.args.out.now.items c.extend_from_slice.new.self.items c.push_decimal.new.out.items c.push_line_feed.new.out.items c.push_journey.new.out.items
    c.in_ok-extend_from_slice.ensures.items (c.in_ok-push_decimal.ensures ∙ ap (λ k. c.extend_from_slice.new.self.items ++ decimal k) c.from.ensures)
    c.in_ok-push_line_feed.ensures c.in_ok-push_journey.ensures
