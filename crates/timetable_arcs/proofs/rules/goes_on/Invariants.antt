use Rattle.plan_base.proofs.Common.{◌≡◌, length}
use Rattle.timetable_arcs.specs.{goes_on}
use Rattle.timetable_arcs.proofs.rules.goes_on.Given as goal

abbrev pub invariant-loop-rest : goal.invariant-loop-rest
invariant-loop-rest l = goes_on l.time l.rest ≡ goes_on 0 l.calls

abbrev pub decreases-loop-rest : goal.decreases-loop-rest
decreases-loop-rest l = length l.rest
