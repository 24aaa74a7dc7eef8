use Rattle.plan_base.proofs.Common.{◌≡◌, ◌≤◌, All, false, take}
use Rattle.sweeps.specs.{time_at}
use Rattle.rounds.specs.inside.{cell, IsRowLowered, IsFedBy}
use Rattle.rounds.proofs.walking.feed.Given as goal

abbrev pub invariant-loop-source : goal.invariant-loop-source
invariant-loop-source l = record {
  lowered : IsRowLowered (IsFedBy l.turn l.gates l.crossings) l.initial.walk l.walk;
  fed : All (λ q. All (λ gate. time_at l.walk gate.place ≤ cell l.crossings q gate.crossing) l.gates) (take l.source-index l.turn.sources.items);
  same : l.sooner ≡ false → l.walk ≡ l.initial.walk;
}
