use Rattle.plan_base.proofs.Common.{◌≡◌, ◌++◌, take, flat_map}
use Rattle.region_build.specs.inside.{leaves_by}
use Rattle.region_build.proofs.headways.push_all_leaves.Given as goal

abbrev pub invariant-loop-row : goal.invariant-loop-row
invariant-loop-row l = l.times.items ≡ l.initial.times.items ++ flat_map (leaves_by l.before) (take l.row-index l.rows)
