use Rattle.plan_base.proofs.Common.{◌≡◌, length, nat_lt}
use Rattle.timetable_arcs.specs.{calls_of}
use Rattle.timetable_arcs.proofs.rules.have_more_calls.Given as goal

abbrev pub invariant-loop-rest : goal.invariant-loop-rest
invariant-loop-rest l = nat_lt l.left (calls_of l.rest) ≡ nat_lt l.most (calls_of l.trips)

abbrev pub decreases-loop-rest : goal.decreases-loop-rest
decreases-loop-rest l = length l.rest
