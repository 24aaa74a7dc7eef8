use Rattle.plan_base.proofs.Common.{take, map, option_map}
use Rattle.plan_base.specs.{IsLater}
use Rattle.compile_commands.specs.{AreTables}
use Rattle.compile_commands.proofs.feeds.read_tables.Given as goal

-- the files so far hold these texts
abbrev pub invariant-loop-table : goal.invariant-loop-table
invariant-loop-table g l =
    IsLater (g.F.Shelf.meaning l.fn.shelf) (g.F.Shelf.meaning l.shelf)
    × AreTables (g.F.Shelf.meaning l.fn.shelf) l.folder (take l.table-index l.tables) (map (option_map (λ bytes. bytes.items)) l.texts.items)
