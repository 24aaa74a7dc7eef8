use Rattle.plan_base.proofs.Common.{◌<◌, ◌^◌, AllWithin}
use Rattle.mode_network.proofs.rules.have_durations.Given as goal

abbrev pub invariant-loop-arc : goal.invariant-loop-arc
invariant-loop-arc l = AllWithin (λ arc. arc.ms < 2 ^ 32) l.arcs 0 l.arc-index
