use Rattle.plan_base.proofs.Common.{◌<◌, ◌^◌, AllWithin}
use Rattle.sweeps.proofs.places.past.Given as goal

abbrev pub invariant-loop-node : goal.invariant-loop-node
invariant-loop-node l = record { above : AllWithin (λ v. v < 2 ^ 24 → v < l.past) l.nodes 0 l.node-index }
