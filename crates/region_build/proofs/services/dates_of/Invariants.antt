use Rattle.plan_base.proofs.Common.{◌≡◌, ℕ, List, take}
use Rattle.region_build.specs.{inside.listed, dates_of}
use Rattle.region_build.proofs.services.dates_of.Given as goal

abbrev pub invariant-loop-row : goal.invariant-loop-row
invariant-loop-row l = (id : List ℕ) → listed l.dates id ≡ dates_of l.added id (take l.row-index l.rows)
