use Rattle.plan_base.proofs.Common.{◌≡◌, ◌++◌, length, map, nat_eq, true, get, list_all}
use Rattle.region_build.specs.{call_at, is_copy_early}
use Rattle.region_build.proofs.copies.calls_at.Given as goal

abbrev pub decreases-loop-rest : goal.decreases-loop-rest
decreases-loop-rest l = length l.rest

abbrev pub invariant-loop-rest : goal.invariant-loop-rest
invariant-loop-rest l = record {
  so_far : l.copy.items ++ map (call_at (get nat_eq l.numbers.by_stop) l.first l.leave) l.rest ≡ map (call_at (get nat_eq l.numbers.by_stop) l.first l.leave) l.calls;
  early : list_all (is_copy_early l.first l.leave) l.rest ≡ true;
}
