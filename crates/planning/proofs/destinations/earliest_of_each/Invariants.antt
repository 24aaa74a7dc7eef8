use Rattle.plan_base.proofs.Common.{◌≡◌, take, map}
use Rattle.planning.specs.{earliest_in}
use Rattle.planning.proofs.destinations.earliest_of_each.Given as goal

abbrev pub invariant-loop-part : goal.invariant-loop-part
invariant-loop-part l = l.list.items ≡ map (earliest_in l.times) (take l.part-index l.parts)
