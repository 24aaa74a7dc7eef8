use Rattle.phase_graph.proofs.ArcLemmas as laws
use Rattle.phase_graph.proofs.phase_graphs_have_no_others.Goals as goal

pub returns : goal.returns
returns c = laws.phase_graphs_have_no_others
