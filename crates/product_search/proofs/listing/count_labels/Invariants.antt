use Rattle.plan_base.proofs.Common.{◌≡◌, length, filter_map, take}
use Rattle.product_search.specs.inside.{rows, label_of_row}
use Rattle.product_search.proofs.listing.count_labels.Given as goal

abbrev pub invariant-loop-row : goal.invariant-loop-row
invariant-loop-row l = l.count ≡ length (filter_map (label_of_row l.frontier.base l.until) (take l.row-index (rows l.frontier)))
