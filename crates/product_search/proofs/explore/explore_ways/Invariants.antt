use Rattle.plan_base.proofs.Common.{AllWithin}
use Rattle.product_search.specs.inside.{IsFrontier, Offers, IsByWays, WayIsReached}
use Rattle.product_search.proofs.explore.explore_ways.Given as goal

abbrev pub invariant-loop-way : goal.invariant-loop-way
invariant-loop-way g l = record {
  right : IsFrontier l.frontier;
  offers : Offers l.initial.frontier l.frontier (IsByWays (g.L.Labels.automaton l.machine.labels) l.initial.frontier.base l.from l.ways);
  reached : AllWithin (WayIsReached (g.L.Labels.automaton l.machine.labels) l.frontier l.from.state) l.ways 0 l.way-index;
}
