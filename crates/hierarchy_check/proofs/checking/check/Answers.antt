use Rattle.hierarchy_check.proofs.VerdictLemmas.{sound_checked}
use Rattle.hierarchy_check.proofs.checking.check.Goals as goal

pub returns-clause-sound : goal.returns-clause-sound
returns-clause-sound c = sound_checked c.args.network.now c.args.h.now c.first_broken.result c.first_broken.ensures
