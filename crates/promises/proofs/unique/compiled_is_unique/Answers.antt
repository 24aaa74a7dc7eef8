use Rattle.promises.proofs.RegionLemmas.{compiled_is_unique}
use Rattle.promises.proofs.unique.compiled_is_unique.Goals as goal

pub returns : goal.returns
returns c = compiled_is_unique
