use Rattle.plan_base.proofs.Common.{◌≡◌, ◌+◌, ◌++◌, length, get}
use Rattle.sample_city.specs.{is_same_road_key, city_stop_links}
use Rattle.sample_city.proofs.stops.push_stop_links.Given as goal

abbrev pub decreases-loop-rest : goal.decreases-loop-rest
decreases-loop-rest l = length l.rest

abbrev pub invariant-loop-rest : goal.invariant-loop-rest
invariant-loop-rest l = record {
  so_far : l.links.items ++ city_stop_links (get is_same_road_key l.numbers.by_end) l.number l.rest ≡ l.initial.links.items ++ city_stop_links (get is_same_road_key l.numbers.by_end) l.first l.stops;
  count : l.number + length l.rest ≡ l.first + length l.stops;
}
