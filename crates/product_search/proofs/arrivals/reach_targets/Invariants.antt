use Rattle.plan_base.proofs.Common.{◌≡◌, ◌+◌, ◌-◌, ◌^◌, length}
use Rattle.product_search.specs.inside.{queue_len, ways, AreGivenReached, IsSearching, AreNoted, AreReached, IsEndNotedBy}
use Rattle.product_search.proofs.arrivals.reach_targets.Given as goal

abbrev pub invariant-search : goal.invariant-search
invariant-search g l = record {
  searching : IsSearching (g.G.Graph.meaning l.graph) (g.L.Labels.automaton l.machine.labels) l.starts l.dep
      (IsEndNotedBy (g.L.Labels.automaton l.machine.labels) l.targets.places.items l.noted.times.items) l.frontier;
  given : AreGivenReached (g.G.Graph.rides l.graph) (g.L.Labels.automaton l.machine.labels) l.frontier l.given;
  one_each : length l.noted.times.items ≡ length l.targets.nodes.items;
  passed : AreReached l.targets.nodes.items l.targets.places.items l.noted.times.items l.noted.passed;
  noted : AreNoted (g.G.Graph.meaning l.graph) (g.L.Labels.automaton l.machine.labels) l.starts l.dep l.targets.places.items l.frontier.until l.noted;
}

abbrev pub decreases-search : goal.decreases-search
decreases-search g l = queue_len l.frontier.queue + (2 ^ 32 - length (ways l.frontier))
