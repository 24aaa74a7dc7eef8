use Rattle.plan_base.proofs.Common.{◌≡◌, map, drop, bytes_eq, lookup}
use Rattle.road_profile.specs.{road}
use Rattle.road_profile.proofs.classes.class_in.Given as goal

abbrev pub invariant-loop-row : goal.invariant-loop-row
invariant-loop-row l =
    lookup (λ name. bytes_eq name l.highway) (map (λ row. (row.0.now, road row.1 row.2 row.3)) (drop l.row-index l.table)) ≡ lookup (λ name. bytes_eq name l.highway) (map (λ row. (row.0.now, road row.1 row.2 row.3)) l.table)
