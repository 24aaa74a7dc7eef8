use Rattle.sweeps.proofs.LayerLemmas as lemmas
use Rattle.sweeps.proofs.laws.sheets_are_whole.Goals as goal

pub returns : goal.returns
returns c = lemmas.sheets_are_whole
