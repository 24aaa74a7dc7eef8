use Rattle.plan_base.proofs.Common.{◌≡◌, ◌++◌, drop}
use Rattle.departures.specs.inside.{calls_from}
use Rattle.departures.proofs.fastest.run_of.Given as goal

abbrev pub invariant-loop-stretch : goal.invariant-loop-stretch
invariant-loop-stretch l = l.calls.items ++ calls_from l.arrive (drop l.stretch-index l.stretches) ≡ calls_from 0 l.stretches
