use Rattle.hierarchy_check.proofs.EntryLemmas.{sum_found, first_missing, second_missing}
use Rattle.hierarchy_check.proofs.entries.is_sum_over.Goals as goal

pub returns-in-Some-entry : goal.returns-in-Some-entry
returns-in-Some-entry c =
    sum_found c.args.h.now.entries c.known.ensures.entries_ascend c.args.u c.args.m c.args.v c.args.weight c.in-Some.first.now c.in-Some-entry.second.now c.in-Some.ensures c.in-Some-entry.ensures

pub returns-in-None-entry : goal.returns-in-None-entry
returns-in-None-entry c = second_missing c.args.h.now.entries c.args.u c.args.m c.args.v c.args.weight c.in-None-entry.ensures

pub returns-in-None : goal.returns-in-None
returns-in-None c = first_missing c.args.h.now.entries c.args.u c.args.m c.args.v c.args.weight c.in-None.ensures
