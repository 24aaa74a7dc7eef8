use Rattle.plan_base.proofs.Common.{◌≡◌, ◌<◌, ℕ, None, length, slice_index, slice_index_or}
use Rattle.phase_graph.specs.{node_of}
use Rattle.descents.specs.inside.{IsDelayAt}
use Rattle.descents.proofs.descents.Descents.times_at.Given as goal

-- there are the times of the first so many
abbrev pub invariant-loop-end : goal.invariant-loop-end
invariant-loop-end l = record {
  one_each : length l.times.items ≡ l.end-index;
  are : (k : ℕ) → k < l.end-index → IsDelayAt l.self.slope.nodes.items l.before l.after (node_of (slice_index l.ends k)) l.dep (slice_index_or l.times.items k None);
}
