use Rattle.phase_graph.proofs.in_use.GraphInUseGraph.fresh_ways.Goals as goal

pub returns-in-Plain : goal.returns-in-Plain
returns-in-Plain c = rw c.in-Plain.is c.fresh_ways.ensures

pub returns-in-Phases : goal.returns-in-Phases
returns-in-Phases c = rw c.in-Phases.is c.fresh_ways-in-Phases.ensures
