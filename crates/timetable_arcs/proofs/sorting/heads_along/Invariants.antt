use Rattle.timetable_arcs.specs.inside.{AreHeads}
use Rattle.timetable_arcs.proofs.sorting.heads_along.Given as goal

abbrev pub invariant-loop-trip : goal.invariant-loop-trip
invariant-loop-trip l = AreHeads l.trips l.heads.items
