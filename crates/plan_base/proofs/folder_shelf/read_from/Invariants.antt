use Rattle.plan_base.proofs.Common.{Keeps}
use Rattle.plan_base.proofs.folder_shelf.read_from.Given as goal

-- a read that was interrupted read nothing
abbrev pub invariant-loop : goal.invariant-loop
invariant-loop g l = Keeps (g.I.Read.remaining l.initial.file) (g.I.Read.remaining l.file)
