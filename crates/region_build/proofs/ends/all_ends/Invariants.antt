use Rattle.plan_base.proofs.Common.{◌≡◌, take, flat_map}
use Rattle.region_build.specs.{ends_at}
use Rattle.region_build.proofs.ends.all_ends.Given as goal

abbrev pub invariant-loop-row : goal.invariant-loop-row
invariant-loop-row l = l.ends.items ≡ flat_map ends_at (take l.row-index l.rows)
