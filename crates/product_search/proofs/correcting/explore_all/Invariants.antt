use Rattle.plan_base.proofs.Common.{◌+◌, ◌*◌, ◌-◌, ◌^◌, length}
use Rattle.product_search.specs.inside.{queue_len, ways, AreGivenReached, IsSearching, IsNoEndAt, GoesTo}
use Rattle.product_search.proofs.correcting.explore_all.Given as goal

abbrev pub invariant-search : goal.invariant-search
invariant-search g l =
    let q = l.question in
    let labels = g.L.Labels.automaton q.machine.now.labels in record {
      searching : IsSearching (g.G.Graph.meaning q.graph.now) labels q.starts.now q.dep (IsNoEndAt labels q.targets.now) l.frontier;
      given : AreGivenReached (g.G.Graph.rides q.graph.now) labels l.frontier l.given;
      goes_to : GoesTo labels q.targets.now q.dep q.bound l.frontier l.end;
    }

abbrev pub decreases-search : goal.decreases-search
decreases-search g l = queue_len l.frontier.queue + 2 * (2 ^ 32 - length (ways l.frontier))
