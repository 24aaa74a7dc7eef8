use Rattle.plan_base.proofs.Common.{ℕ, ◌-◌, ◌<◌, All, Contains, slice_index_or}
use Rattle.phase_graph.specs.inside.{IsMarking, IsFollowed}
use Rattle.phase_graph.proofs.marks.mark_nodes.Given as goal

abbrev pub invariant-loop-next : goal.invariant-loop-next
invariant-loop-next l = record {
  marking : IsMarking l.h l.targets l.nodes l.numbers.items l.queue.items;
  started : All (λ v. v < l.nodes → Contains l.queue.items v) l.targets;
  followed : (j d : ℕ) → j < l.next → IsFollowed l.h l.queue.items (slice_index_or l.queue.items j d);
}

abbrev pub decreases-loop-next : goal.decreases-loop-next
decreases-loop-next l = l.nodes - l.next
