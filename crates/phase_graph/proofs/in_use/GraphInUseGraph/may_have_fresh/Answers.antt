use Rattle.phase_graph.proofs.in_use.GraphInUseGraph.may_have_fresh.Goals as goal

pub returns-in-Plain : goal.returns-in-Plain
returns-in-Plain c = rw c.in-Plain.is c.may_have_fresh.ensures

pub returns-in-Phases : goal.returns-in-Phases
returns-in-Phases c = rw c.in-Phases.is c.may_have_fresh-in-Phases.ensures
