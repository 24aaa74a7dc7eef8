use Rattle.product_search.specs.inside.{ArePlaces}
use Rattle.product_search.proofs.targets.places_of.Given as goal

abbrev pub invariant-loop-k : goal.invariant-loop-k
invariant-loop-k l = ArePlaces l.nodes l.places.items l.k
