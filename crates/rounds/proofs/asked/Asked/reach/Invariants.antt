use Rattle.rounds.specs.inside.{asked_of}
use Rattle.rounds.proofs.ReachLemmas.{AreUnderWay}
use Rattle.rounds.proofs.asked.Asked.reach.Given as goal

abbrev pub invariant-loop : goal.invariant-loop
invariant-loop g l = AreUnderWay (asked_of {l = g.L.Labels} l.self) l.firsts l.turns l.reached.walks.items l.reached.crossings.items l.visits.items l.rides.items
