use Rattle.phase_graph.proofs.JourneyLemmas as laws
use Rattle.phase_graph.proofs.journeys_have_phase_walks.Goals as goal

pub returns : goal.returns
returns c = laws.journeys_have_phase_walks
