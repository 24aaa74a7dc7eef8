use Rattle.plan_base.proofs.Common.{take}
use Rattle.rounds.specs.inside.{asked_of, AreFirstsOf}
use Rattle.rounds.proofs.asked.Asked.firsts.Given as goal

-- they are those of the first so many starts
abbrev pub invariant-loop-start : goal.invariant-loop-start
invariant-loop-start g l = AreFirstsOf (asked_of {l = g.L.Labels} l.self) (take l.start-index l.self.starts.now) l.labels.items
