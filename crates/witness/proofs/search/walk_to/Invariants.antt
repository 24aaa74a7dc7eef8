use Rattle.witness.specs.inside.{IsSearch, IsSameRound, NobodyBusy, work}
use Rattle.witness.proofs.search.walk_to.Given as goal

abbrev pub invariant-turns : goal.invariant-turns
invariant-turns l = record {
  search : IsSearch l.rows (l.fn.workspace).most NobodyBusy l.workspace;
  same : IsSameRound l.fn.workspace l.workspace;
}

abbrev pub decreases-turns : goal.decreases-turns
decreases-turns l = work (l.fn.workspace).most l.workspace
