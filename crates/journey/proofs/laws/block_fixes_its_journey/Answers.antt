use Rattle.journey.proofs.AlikeLemmas.{block_fixes_its_journey, each_printed_is_best}
use Rattle.journey.proofs.laws.block_fixes_its_journey.Goals as goal

pub returns-clause-alike : goal.returns-clause-alike
returns-clause-alike c = block_fixes_its_journey

pub returns-clause-best : goal.returns-clause-best
returns-clause-best c = each_printed_is_best
