use Rattle.hierarchy_check.proofs.EntryLemmas.{lighter_found, lighter_missing}
use Rattle.hierarchy_check.proofs.entries.has_lighter.Goals as goal

pub returns-in-Some : goal.returns-in-Some
returns-in-Some c = lighter_found c.args.h.now.entries c.known.ensures.entries_ascend c.args.u c.args.v c.args.limit c.in-Some.entry.now c.in-Some.ensures

pub returns-in-None : goal.returns-in-None
returns-in-None c = lighter_missing c.args.h.now.entries c.args.u c.args.v c.args.limit c.in-None.ensures
