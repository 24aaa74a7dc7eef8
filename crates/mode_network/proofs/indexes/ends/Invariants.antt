use Rattle.plan_base.proofs.Common.{take}
use Rattle.mode_network.specs.{AreEndMarks}
use Rattle.mode_network.proofs.indexes.ends.Given as goal

abbrev pub invariant-loop-arc : goal.invariant-loop-arc
invariant-loop-arc l = AreEndMarks l.nodes (take l.arc-index l.arcs) l.ends.items
