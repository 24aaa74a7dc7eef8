use Rattle.contractor.specs.inside.{AreArcs}
use Rattle.contractor.proofs.beginning.begin.Given as goal

abbrev pub invariant-arcs : goal.invariant-arcs
invariant-arcs l = AreArcs l.network l.arc-index l.layer
