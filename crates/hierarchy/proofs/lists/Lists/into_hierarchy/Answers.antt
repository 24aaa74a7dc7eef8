use Rattle.hierarchy.proofs.LookupLemmas.{from_rises}
use Rattle.hierarchy.proofs.lists.Lists.into_hierarchy.Goals as goal

pub new-requires-clause-rising : goal.new-requires-clause-rising
new-requires-clause-rising c = rw c.entries.ensures (from_rises c.args.self.entries c.known.ensures.entries_ascend)
