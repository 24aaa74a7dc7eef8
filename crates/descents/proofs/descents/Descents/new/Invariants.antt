use Rattle.plan_base.proofs.Common.{AllWithin}
use Rattle.descents.specs.{IsServedOn}
use Rattle.descents.proofs.descents.Descents.new.Given as goal

abbrev pub invariant-loop-v : goal.invariant-loop-v
invariant-loop-v l = record { served : AllWithin (IsServedOn l.network l.hierarchy l.slope.nodes.items) l.targets 0 l.v-index }
