use Rattle.plan_base.proofs.Common.{◌≤◌, take, All}
use Rattle.witness.specs.inside.{IsSearch, IsSameRound, IsBusy, Reaches, IsEdgeClosed, work}
use Rattle.witness.proofs.search.relax.Given as goal

abbrev pub invariant-edges : goal.invariant-edges
invariant-edges l = record {
  search : IsSearch l.rows (l.fn.workspace).most (IsBusy l.node l.at) l.workspace;
  reached : Reaches l.workspace l.node l.at;
  same : IsSameRound l.fn.workspace l.workspace;
  less : work (l.fn.workspace).most l.workspace ≤ work (l.fn.workspace).most l.fn.workspace;
  closed : All (IsEdgeClosed (l.fn.workspace).most l.workspace l.at) (take l.edge-index l.edge-items);
}
