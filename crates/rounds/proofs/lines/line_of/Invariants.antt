use Rattle.plan_base.proofs.Common.{take}
use Rattle.rounds.specs.{IsLine}
use Rattle.rounds.proofs.lines.line_of.Given as goal

abbrev pub invariant-loop-call : goal.invariant-loop-call
invariant-loop-call l = record { line : IsLine l.network l.places.nodes.now (take l.call-index l.calls) l.crossings.items }
