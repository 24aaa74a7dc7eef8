use Rattle.hierarchy.proofs.DistanceLemmas as lemmas
use Rattle.hierarchy.proofs.laws.entries_are_roads.Goals as goal

pub returns : goal.returns
returns c = lemmas.entries_are_roads
