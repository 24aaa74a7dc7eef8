use Rattle.plan_base.proofs.Common.{take}
use Rattle.descents.specs.inside.Delaying.{AreDelays}
use Rattle.descents.proofs.delays.delays_of.Given as goal

abbrev pub invariant-loop-label : goal.invariant-loop-label
invariant-loop-label g l = AreDelays l.network l.slope.nodes.items (g.L.Labels.automaton l.automaton) l.dep (take l.label-index l.labels) l.delays
