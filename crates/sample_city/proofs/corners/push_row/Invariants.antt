use Rattle.plan_base.proofs.Common.{◌≡◌, ◌++◌, map, take}
use Rattle.sample_city.specs.{corner}
use Rattle.sample_city.proofs.corners.push_row.Given as goal

abbrev pub invariant-loop-column : goal.invariant-loop-column
invariant-loop-column l = l.corners.items ≡ l.initial.corners.items ++ map (corner l.n l.row) (take l.column-index l.columns)
