use Rattle.product_search.specs.inside.{HasChainsFrom}
use Rattle.product_search.proofs.frontier.cleared.Given as goal

abbrev pub invariant-loop-row : goal.invariant-loop-row
invariant-loop-row l = HasChainsFrom l.chains.count l.rows l.first.items l.row-index
