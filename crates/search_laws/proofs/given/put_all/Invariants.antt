use Rattle.plan_base.proofs.Common.{◌⊎◌, Some, Contains}
use Rattle.search_laws.specs.{GivenRun}
use Rattle.search_laws.proofs.given.put_all.Given as goal

abbrev pub invariant-loop-run : goal.invariant-loop-run
invariant-loop-run l = (other : GivenRun) → Contains l.cells.items (Some other) → Contains l.initial.cells.items (Some other) ⊎ Contains l.runs (Some other)
