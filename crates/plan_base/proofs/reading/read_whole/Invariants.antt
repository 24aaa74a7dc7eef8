use Rattle.plan_base.proofs.Common.{◌+◌, ◌-◌, ◌≤◌, length}
use Rattle.plan_base.specs.{IsLater, Told}
use Rattle.plan_base.proofs.MoreRead.{IsFrontOf}
use Rattle.plan_base.proofs.reading.read_whole.Given as goal

-- the bytes so far are a front of the file, and no more than the cap
abbrev pub invariant-loop-bytes : goal.invariant-loop-bytes
invariant-loop-bytes g l =
    IsLater (g.F.Shelf.meaning l.fn.shelf) (g.F.Shelf.meaning l.shelf) × (length l.bytes.items ≤ l.cap)
    × Told (g.F.Shelf.meaning l.fn.shelf) l.name (IsFrontOf l.bytes.items)

abbrev pub decreases-loop-bytes : goal.decreases-loop-bytes
decreases-loop-bytes g l = l.cap + 1 - length l.bytes.items
