use Rattle.rounds.proofs.LineLemmas.{AreLinesBelow}
use Rattle.rounds.proofs.lines.lines_of.Given as goal

abbrev pub invariant-loop-pattern : goal.invariant-loop-pattern
invariant-loop-pattern l = record { below : AreLinesBelow l.network l.timetable l.places.nodes.now l.pattern l.lines.items }
