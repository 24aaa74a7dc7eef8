use mathlib.Core.Path.{fun_ext}
use Rattle.plan_base.proofs.Common.{get}
use Rattle.sample_city.specs.{is_same_road_key, road_number}
use Rattle.sample_city.proofs.NumberLaws.{all_noted}
use Rattle.sample_city.proofs.roads.road_numbers.Goals as goal

pub returns : goal.returns
unfolding road_number
returns c = fun_ext (λ end. all_noted (get is_same_road_key c.loop-rest.by_end end) c.loop-rest.number c.loop-rest.rest.now end _ c.in_default.len_below (c.loop-rest.invariant.noted end))
