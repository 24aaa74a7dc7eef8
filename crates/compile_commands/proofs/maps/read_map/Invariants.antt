use Rattle.plan_base.proofs.Common.{◌+◌, ◌-◌, ◌≤◌, ◌^◌}
use Rattle.plan_base.specs.{IsLater}
use Rattle.compile_commands.specs.inside.{HasFed}
use Rattle.compile_commands.proofs.maps.read_map.Given as goal

-- the reader took a front of the map, of so many bytes, and no more than a file may have
abbrev pub invariant-pieces : goal.invariant-pieces
invariant-pieces g l =
    IsLater (g.F.Shelf.meaning l.fn.shelf) (g.F.Shelf.meaning l.shelf) × (l.taken ≤ 2 ^ 30)
    × HasFed l.caps (g.F.Shelf.meaning l.fn.shelf) l.name l.opl l.taken

abbrev pub decreases-pieces : goal.decreases-pieces
decreases-pieces g l = 2 ^ 30 + 1 - l.taken
