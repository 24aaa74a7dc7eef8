use Rattle.plan_base.proofs.Common.{◌≡◌, take}
use Rattle.region_build.specs.{arcs_of}
use Rattle.region_build.proofs.roads.arcs_between.Given as goal

abbrev pub invariant-loop-row : goal.invariant-loop-row
invariant-loop-row l = l.arcs.items ≡ arcs_of l.ends (take l.row-index l.rows)
