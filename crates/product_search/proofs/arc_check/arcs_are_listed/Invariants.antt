use Rattle.plan_base.proofs.Common.{◌-◌}
use Rattle.search_laws.specs.{HoldsBelow}
use Rattle.product_search.specs.{ArcIsListed}
use Rattle.product_search.proofs.arc_check.arcs_are_listed.Given as goal

abbrev pub invariant-arcs : goal.invariant-arcs
invariant-arcs g l = HoldsBelow l.i (ArcIsListed (g.G.Graph.meaning l.graph) (g.L.Labels.automaton l.labels) l.arrival l.list l.label)

abbrev pub decreases-arcs : goal.decreases-arcs
decreases-arcs g l = l.arcs - l.i
