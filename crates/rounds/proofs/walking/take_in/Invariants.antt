use Rattle.plan_base.proofs.Common.{◌≡◌, ◌≤◌, All, false, take}
use Rattle.sweeps.specs.{time_at}
use Rattle.rounds.specs.inside.{IsRowLowered, IsTakenIn}
use Rattle.rounds.proofs.walking.take_in.Given as goal

abbrev pub invariant-loop-gate : goal.invariant-loop-gate
invariant-loop-gate l = record {
  lowered : IsRowLowered (IsTakenIn l.gates l.from) l.initial.walk l.walk;
  fed : All (λ gate. time_at l.walk gate.place ≤ time_at l.from gate.crossing) (take l.gate-index l.gates);
  same : l.sooner ≡ false → l.walk ≡ l.initial.walk;
}
