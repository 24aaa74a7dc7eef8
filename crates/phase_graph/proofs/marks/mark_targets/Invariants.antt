use Rattle.plan_base.proofs.Common.{ℕ, ◌<◌, All, Contains, slice_index_or}
use Rattle.phase_graph.specs.inside.{AreMarks}
use Rattle.phase_graph.proofs.marks.mark_targets.Given as goal

abbrev pub invariant-loop-v : goal.invariant-loop-v
invariant-loop-v l = record {
  marks : AreMarks l.nodes l.numbers.items l.queue.items;
  only : All (Contains l.targets) l.queue.items;
  so_far : (j d : ℕ) → j < l.v-index → slice_index_or l.targets j d < l.nodes → Contains l.queue.items (slice_index_or l.targets j d);
}
