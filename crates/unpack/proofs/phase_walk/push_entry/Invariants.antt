use Rattle.unpack.proofs.PhaseLemmas.{IsUnpacking, work_of}
use Rattle.unpack.proofs.phase_walk.push_entry.Given as goal

abbrev pub invariant-loop-next : goal.invariant-loop-next
invariant-loop-next l = IsUnpacking l.network l.hierarchy l.fn.entry l.initial.steps.items l.steps.items l.stack.items

abbrev pub decreases-loop-next : goal.decreases-loop-next
decreases-loop-next l = work_of l.stack.items
