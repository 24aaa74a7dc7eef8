use Rattle.hierarchy.proofs.DistanceLemmas as lemmas
use Rattle.hierarchy.proofs.laws.cores_keep_distances.Goals as goal

pub returns : goal.returns
returns c = lemmas.cores_keep_distances
