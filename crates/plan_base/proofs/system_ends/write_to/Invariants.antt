use Rattle.plan_base.proofs.Common.{Keeps}
use Rattle.plan_base.proofs.system_ends.write_to.Given as goal

-- a write that was interrupted wrote nothing
abbrev pub invariant-loop : goal.invariant-loop
invariant-loop g l = Keeps (g.W.Write.contents l.initial.stream) (g.W.Write.contents l.stream)
