use Rattle.plan_base.proofs.Common.{◌≡◌, ℕ, ◌-◌, None}
use Rattle.hierarchy_file.specs.{many_ascending, next_node}
use Rattle.file_records.proofs.RowLaws.{with_front}
use Rattle.hierarchy_file.proofs.records.read_nodes.Given as goal

abbrev pub invariant-loop : goal.invariant-loop
invariant-loop l = with_front l.nodes.items (many_ascending next_node (λ (v : ℕ). v) (l.count - l.counter) None l.rest) ≡ many_ascending next_node (λ (v : ℕ). v) l.count None l.bytes
