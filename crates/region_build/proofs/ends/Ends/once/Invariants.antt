use Rattle.plan_base.proofs.Common.{◌≡◌, [], drop, map}
use Rattle.region_build.specs.{key_of_end, once_behind}
use Rattle.region_build.proofs.ends.Ends.once.Given as goal

abbrev pub invariant-loop-end : goal.invariant-loop-end
invariant-loop-end l = record {
  so_far : once_behind l.once.items (drop l.end-index l.ends) ≡ once_behind [] l.ends;
  keyed : l.keys.keys ≡ map key_of_end l.once.items;
}
