use Rattle.phase_graph.proofs.RoadLemmas as laws
use Rattle.phase_graph.proofs.phase_walks_have_journeys.Goals as goal

pub returns : goal.returns
returns c = laws.phase_walks_have_journeys
