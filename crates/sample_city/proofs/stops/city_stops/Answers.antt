use Rattle.plan_base.proofs.Common.{rules, is_lt, nat_list_cmp_total, answers_always, ranks_by}
use Rattle.mode_network.specs.{name_cmp}
use Rattle.sample_city.specs.{CityStop}
use Rattle.sample_city.proofs.stops.city_stops.Goals as goal

pub returns-clause-ascend : goal.returns-clause-ascend
returns-clause-ascend c =
    c.in_ok-sort_by.ensures.sorted (λ a b. is_lt (name_cmp a.name b.name)) (ranks_by nat_list_cmp_total (λ (stop : CityStop). stop.name))
    (answers_always _ _ _ (λ f a r g called. search rules))
