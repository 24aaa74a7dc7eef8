use Rattle.plan_base.proofs.Common.{◌≤◌, length}
use Rattle.plan_base.proofs.MoreWritten.{IsWrittenTo}
use Rattle.plan_base.proofs.writing.write_all.Given as goal

-- the bytes before what is left have been appended
abbrev pub invariant-loop-rest : goal.invariant-loop-rest
invariant-loop-rest g l =
    ((g.O.Sink.meaning l.fn.sink).faults ≤ (g.O.Sink.meaning l.sink).faults)
    × IsWrittenTo (g.O.Sink.meaning l.fn.sink) (g.O.Sink.meaning l.sink) l.piece l.rest

abbrev pub decreases-loop-rest : goal.decreases-loop-rest
decreases-loop-rest g l = length l.rest
