use Rattle.promises.proofs.HierarchyLemmas.{check_verdict_is_unique}
use Rattle.promises.proofs.unique.check_verdict_is_unique.Goals as goal

pub returns : goal.returns
returns c = check_verdict_is_unique
