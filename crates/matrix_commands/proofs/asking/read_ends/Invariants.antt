use Rattle.plan_base.proofs.Common.{◌≡◌, ℕ, ◌<◌, [], length, get_or, map, None}
use Rattle.matrix_commands.specs.inside.{IsEndIfAny}
use Rattle.matrix_commands.proofs.asking.read_ends.Given as goal

abbrev pub invariant-loop-line : goal.invariant-loop-line
invariant-loop-line l = record {
  one_each : length l.queries.items ≡ l.line-index;
  are : (k : ℕ) → k < l.line-index
      → IsEndIfAny l.network l.asking.places l.asking.date.now l.asking.time.now l.asking.expr.now (get_or (map (λ x. x.now) l.lines) k []) (get_or l.queries.items k None);
}
