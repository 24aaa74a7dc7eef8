use Rattle.plan_base.proofs.Common.{◌≡◌, ◌≤◌, All, false, take}
use Rattle.sweeps.specs.{time_at}
use Rattle.rounds.specs.inside.{cell, AreLowered, IsGivenBack}
use Rattle.rounds.proofs.walking.give_back.Given as goal

abbrev pub invariant-loop-gate : goal.invariant-loop-gate
invariant-loop-gate l = record {
  lowered : AreLowered (IsGivenBack l.state l.gates l.walk) l.initial.crossings.items l.crossings.items;
  returned : All (λ gate. cell l.crossings.items l.state gate.crossing ≤ time_at l.walk gate.place) (take l.gate-index l.gates);
  same : l.sooner ≡ false → l.crossings.items ≡ l.initial.crossings.items;
}
