use Rattle.compile_commands.proofs.parts.least_of.Given as goal

abbrev pub decreases-loop-next : goal.decreases-loop-next
decreases-loop-next l = l.v
