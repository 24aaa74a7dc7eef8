use Rattle.plan_base.proofs.Common.{◌*◌, ◌^◌, ◌≤◌, option_map}
use Rattle.planning.specs.Settled.{Settled}
use Rattle.sample_command.specs.{lines_before, AreTimes, total_time}
use Rattle.sample_command.proofs.times.times_of.Given as goal

abbrev pub invariant-loop-k : goal.invariant-loop-k
invariant-loop-k l = record {
  times : AreTimes l.network (lines_before l.n l.k) l.times.items;
  below : total_time l.times.items ≤ l.k * 10 ^ 30;
  settled : Settled l.network (option_map (λ h. h.now) l.hierarchy) (lines_before l.n l.k) l.settled;
  small : l.settled ≤ l.k * 2 ^ 64;
}
