use Rattle.plan_base.proofs.Common.{◌≡◌, drop}
use Rattle.phase_graph.specs.{marks_in, inside.AreChains, inside.places_into_all}
use Rattle.phase_graph.proofs.falls.FallChains.new.Given as goal

-- the falls to the nodes from the place `left` on are in chains
abbrev pub invariant-loop-left : goal.invariant-loop-left
invariant-loop-left l = record {
  chains : AreChains l.h (places_into_all l.h (drop l.left l.nodes)) l.falls.all.items l.falls.first.items;
  marks : marks_in l.falls.first.items ≡ marks_in l.initial.falls.first.items;
}
