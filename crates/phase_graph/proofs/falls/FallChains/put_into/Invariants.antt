use Rattle.plan_base.proofs.Common.{◌≡◌, ◌++◌, List, ℕ, drop}
use Rattle.phase_graph.specs.{marks_in, inside.AreChains, inside.places_into}
use Rattle.phase_graph.proofs.falls.FallChains.put_into.Given as goal

-- the falls from the place `left` on are put before the others
abbrev pub invariant-loop-left : goal.invariant-loop-left
invariant-loop-left l = record {
  chains : (places : List ℕ) → AreChains l.h places l.initial.self.all.items l.initial.self.first.items → AreChains l.h (drop l.left (places_into l.h l.x) ++ places) l.self.all.items l.self.first.items;
  marks : marks_in l.self.first.items ≡ marks_in l.initial.self.first.items;
}
