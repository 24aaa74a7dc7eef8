use Rattle.plan_base.proofs.Common.{◌≡◌, ◌++◌, map, nat_eq, take, get}
use Rattle.region_build.specs.{copy_at, lists_of}
use Rattle.region_build.proofs.copies.push_each.Given as goal

abbrev pub invariant-loop-leave : goal.invariant-loop-leave
invariant-loop-leave l = l.trips.items ≡ l.initial.trips.items ++ map (copy_at (get nat_eq l.numbers.by_stop) (lists_of l.source)) (take l.leave-index l.times)
