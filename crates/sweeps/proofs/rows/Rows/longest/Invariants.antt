use Rattle.plan_base.proofs.Common.{◌≤◌, AllWithin}
use Rattle.sweeps.proofs.rows.Rows.longest.Given as goal

abbrev pub invariant-loop-leg : goal.invariant-loop-leg
invariant-loop-leg l = record { within : AllWithin (λ leg. leg.ms ≤ l.longest) l.self.legs.items 0 l.leg-index }
