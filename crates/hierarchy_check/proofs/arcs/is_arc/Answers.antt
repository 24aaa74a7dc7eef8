use Rattle.hierarchy_check.proofs.EntryLemmas.{arc_found, arc_missing}
use Rattle.hierarchy_check.proofs.arcs.is_arc.Goals as goal

pub returns-in-Some : goal.returns-in-Some
returns-in-Some c = arc_found c.args.network.now.arcs c.known.ensures.arcs_ascend c.args.u c.args.v c.in-Some.ms c.args.weight c.in-Some.ensures

pub returns-in-None : goal.returns-in-None
returns-in-None c = arc_missing c.args.network.now.arcs c.args.u c.args.v c.args.weight c.in-None.ensures
