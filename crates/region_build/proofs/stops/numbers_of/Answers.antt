use Rattle.plan_base.proofs.Common.{nat_eq, get}
use Rattle.region_build.specs.{stop_number}
use Rattle.region_build.proofs.NumberLaws.{all_noted}
use Rattle.region_build.proofs.stops.numbers_of.Goals as goal

pub returns : goal.returns
unfolding stop_number
returns c = λ stop. all_noted (get nat_eq c.loop-rest.by_stop stop) c.loop-rest.number c.loop-rest.rest.now stop _ c.in_default.len_below (c.loop-rest.invariant.noted stop)
