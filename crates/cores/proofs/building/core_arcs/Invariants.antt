use Rattle.plan_base.proofs.Common.{◌≡◌, filter, map, take}
use Rattle.cores.specs.Cores.{core_arc, is_core_entry}
use Rattle.cores.proofs.building.core_arcs.Given as goal

abbrev pub invariant-loop-entry : goal.invariant-loop-entry
invariant-loop-entry l = record { so_far : l.arcs.items ≡ map core_arc (filter (is_core_entry l.hierarchy.order) (take l.entry-index l.entry-items)) }
