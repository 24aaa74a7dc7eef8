use Rattle.product_search.specs.inside.{rows}
use Rattle.product_search.proofs.FrontierLemmas.{IsSought}
use Rattle.product_search.proofs.frontier.Frontier.find.Given as goal

abbrev pub invariant-chain : goal.invariant-chain
invariant-chain l = IsSought l.self.chains.count (rows l.self) l.node l.state l.cursor

abbrev pub decreases-chain : goal.decreases-chain
decreases-chain l = l.cursor
