use Rattle.plan_base.proofs.Common.{◌≡◌, map}
use Rattle.region_build.specs.{StopEntry}
use Rattle.region_build.proofs.stops.names_of.Given as goal

abbrev pub invariant-loop-entry : goal.invariant-loop-entry
invariant-loop-entry l = l.names.items ≡ map (λ (entry : StopEntry). entry.name) l.yielded
