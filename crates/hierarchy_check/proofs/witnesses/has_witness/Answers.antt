use Rattle.hierarchy_check.proofs.WalkLemmas.{not_listed}
use Rattle.hierarchy_check.proofs.witnesses.has_witness.Goals as goal

pub returns-in-None : goal.returns-in-None
returns-in-None c = not_listed c.args.h.now c.args.x c.args.u c.args.v c.args.limit c.in-None.ensures
