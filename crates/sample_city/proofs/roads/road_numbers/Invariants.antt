use Rattle.plan_base.proofs.Common.{◌≡◌, ◌+◌, length, get, option_or}
use Rattle.sample_city.specs.{RoadNodeKey, is_same_road_key, road_number_from}
use Rattle.sample_city.proofs.roads.road_numbers.Given as goal

abbrev pub decreases-loop-rest : goal.decreases-loop-rest
decreases-loop-rest l = length l.rest

abbrev pub invariant-loop-rest : goal.invariant-loop-rest
invariant-loop-rest l = record {
  noted : (end : RoadNodeKey) → option_or (get is_same_road_key l.by_end end) (road_number_from l.number l.rest end) ≡ road_number_from 0 l.nodes end;
  count : l.number + length l.rest ≡ length l.nodes;
}
