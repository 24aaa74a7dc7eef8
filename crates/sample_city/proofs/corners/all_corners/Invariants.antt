use Rattle.plan_base.proofs.Common.{◌≡◌, map, take, flat_map}
use Rattle.sample_city.specs.{corner}
use Rattle.sample_city.proofs.corners.all_corners.Given as goal

abbrev pub invariant-loop-row : goal.invariant-loop-row
invariant-loop-row l = l.corners.items ≡ flat_map (λ row. map (corner l.n row) l.row-items) (take l.row-index l.row-items)
