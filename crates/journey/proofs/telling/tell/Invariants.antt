use Rattle.journey.proofs.ToldLemmas.{IsTelling}
use Rattle.journey.proofs.telling.tell.Given as goal

abbrev pub invariant-loop-step : goal.invariant-loop-step
invariant-loop-step l = IsTelling l.network l.start l.at l.steps l.step-index l.told.node l.told.at l.told.word.items l.told.lines.items
