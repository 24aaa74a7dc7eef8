use Rattle.plan_base.proofs.Common.{◌≡◌, ℕ, ◌+◌, length, nat_eq, get, option_or}
use Rattle.region_build.specs.{number_from}
use Rattle.region_build.proofs.stops.numbers_of.Given as goal

abbrev pub decreases-loop-rest : goal.decreases-loop-rest
decreases-loop-rest l = length l.rest

abbrev pub invariant-loop-rest : goal.invariant-loop-rest
invariant-loop-rest l = record {
  noted : (stop : ℕ) → option_or (get nat_eq l.by_stop stop) (number_from l.number l.rest stop) ≡ number_from 0 l.entries stop;
  count : l.number + length l.rest ≡ length l.entries;
}
