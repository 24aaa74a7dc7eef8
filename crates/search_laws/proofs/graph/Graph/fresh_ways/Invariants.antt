use Rattle.plan_base.proofs.Common.{◌≡◌, ◌-◌, ◌++◌}
use Rattle.search_laws.specs.{ways_from}
use Rattle.search_laws.proofs.graph.Graph.fresh_ways.Given as goal

abbrev pub invariant-loop-i : goal.invariant-loop-i
invariant-loop-i g l =
    let first = g.Self.Graph.steady_count l.self l.visit.node in
    l.ways.items ≡ l.initial.ways.items ++ ways_from (g.Self.Graph.meaning l.self) l.visit.node l.visit.at l.visit.letters first (l.i - first)
