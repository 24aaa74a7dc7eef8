use Rattle.plan_base.proofs.Common.{◌≡◌, filter_map, take}
use Rattle.product_search.specs.inside.{rows, label_of_row}
use Rattle.product_search.proofs.listing.labels_before.Given as goal

abbrev pub invariant-loop-row : goal.invariant-loop-row
invariant-loop-row l = l.list.items ≡ filter_map (label_of_row l.frontier.base l.until) (take l.row-index (rows l.frontier))
