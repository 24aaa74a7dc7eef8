use Rattle.plan_base.proofs.Common.{◌-◌, ◌^◌}
use Rattle.departures.proofs.FastestLemmas.{AreShort}
use Rattle.departures.proofs.fastest.stretches_of.Given as goal

abbrev pub invariant-loop-run : goal.invariant-loop-run
invariant-loop-run l = AreShort l.timetable l.pattern l.time l.stretches.items

abbrev pub decreases-loop-run : goal.decreases-loop-run
decreases-loop-run l = 2 ^ 42 - l.time
