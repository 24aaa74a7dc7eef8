use Rattle.plan_base.proofs.Common.{IfSome}
use Rattle.search_laws.specs.{KnowsBy}
use Rattle.search_laws.proofs.given.GivenRuns.call.Given as goal

abbrev pub invariant-loop-i : goal.invariant-loop-i
invariant-loop-i l = IfSome l.least (KnowsBy l.self l.state l.line l.run)
