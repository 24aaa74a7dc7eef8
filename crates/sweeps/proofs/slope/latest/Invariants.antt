use Rattle.plan_base.proofs.Common.{◌≡◌, ◌≤◌, ◌-◌, ◌^◌, ◌⊎◌, All, take}
use Rattle.sweeps.proofs.slope.latest.Given as goal

abbrev pub invariant-loop-t : goal.invariant-loop-t
invariant-loop-t l = All (λ t. t ≡ 2 ^ 32 - 1 ⊎ t ≤ l.latest) (take l.t-index l.times)
