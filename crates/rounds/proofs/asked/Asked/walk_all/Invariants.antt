use Rattle.plan_base.proofs.Common.{◌≡◌, false}
use Rattle.rounds.specs.inside.{asked_of, AreWalksReached, AreWalksClosed, AreWalkedBelow, AreCrossingsReached, AreLowered}
use Rattle.rounds.proofs.asked.Asked.walk_all.Given as goal

-- the first k turns are walked, if nothing is reached sooner
abbrev pub invariant-loop-k : goal.invariant-loop-k
invariant-loop-k g l = record {
  walks : AreWalksReached (asked_of l.self) l.turns l.reached.walks.items;
  closed : AreWalksClosed (asked_of l.self) l.turns l.reached.walks.items;
  crossings : AreCrossingsReached (asked_of l.self) l.reached.crossings.items;
  walks_lowered : AreLowered (λ k i t. Unit {0}) l.fn.reached.walks.items l.reached.walks.items;
  lowered : AreLowered (λ k i t. Unit {0}) l.fn.reached.crossings.items l.reached.crossings.items;
  same : l.sooner ≡ false → l.reached.crossings.items ≡ l.fn.reached.crossings.items;
  walked : l.sooner ≡ false → AreWalkedBelow (asked_of l.self) l.turns l.reached.walks.items l.reached.crossings.items l.k;
}
