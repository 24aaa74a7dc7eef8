use Rattle.plan_base.proofs.Common.{arith}
use Rattle.product_search.proofs.NotingLemmas.{place_within}
use Rattle.product_search.proofs.targets.TargetTable.place.Goals as goal

pub returns-clause-within : goal.returns-clause-within
returns-clause-within c = omega (arith, c.entry.ensures, place_within c.args.self.now.nodes.items c.args.self.now.places.items c.args.node c.args.self.now.placed)
