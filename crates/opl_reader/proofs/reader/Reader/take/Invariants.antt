use Rattle.plan_base.proofs.Common.{◌≡◌, length}
use Rattle.opl_reader.specs.{state_of, with_bytes}
use Rattle.opl_reader.proofs.reader.Reader.take.Given as goal

abbrev pub invariant-loop-line : goal.invariant-loop-line
invariant-loop-line l = with_bytes (state_of l.self) l.rest ≡ with_bytes (state_of l.fn.self) l.piece

abbrev pub decreases-loop-line : goal.decreases-loop-line
decreases-loop-line l = length l.rest
