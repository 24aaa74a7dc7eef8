use Rattle.plan_base.proofs.Common.{◌≡◌, map, take}
use Rattle.product_search.specs.inside.{time_of}
use Rattle.product_search.proofs.arrivals.listed.Given as goal

abbrev pub invariant-loop-node : goal.invariant-loop-node
invariant-loop-node l = l.list.items ≡ map (time_of l.targets.places.items l.noted.times.items) (take l.node-index l.targets.nodes.items)
