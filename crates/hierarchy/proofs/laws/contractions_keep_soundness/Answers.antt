use Rattle.hierarchy.proofs.ContractionLemmas as lemmas
use Rattle.hierarchy.proofs.laws.contractions_keep_soundness.Goals as goal

pub returns : goal.returns
returns c = lemmas.contractions_keep_soundness
