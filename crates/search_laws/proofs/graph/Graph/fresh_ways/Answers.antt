use Rattle.plan_base.proofs.Common.{◌≡◌, ◌-◌, ◌++◌, ◌∙◌, ap, arith}
use Rattle.search_laws.specs.{ways_from, ways_past}
use Rattle.search_laws.proofs.{WayLemmas.ways_pushed, FreshLemmas.adds_all, FreshLemmas.adds_moving}
use Rattle.search_laws.proofs.graph.Graph.fresh_ways.Goals as goal

pub loop-i-preserved : goal.loop-i-preserved
loop-i-preserved g c =
    let visit = c.args.visit in
    ways_pushed (g.Self.Graph.meaning c.args.self.now) visit.node visit.at visit.letters (g.Self.Graph.steady_count c.args.self.now visit.node) c.loop-i.i
    c.args.ways.now.items c.loop-i.ways.items c.push_way.new.ways.items c.arc_at-arc.result c.arrive-at.result (omega (arith, c.steady.ensures.count))
    c.loop-i.invariant c.arc_at-arc.ensures c.arrive-at.ensures c.in_ok-push_way.ensures

pub returns : goal.returns
returns g c =
    let visit = c.args.visit in
    let meaning = g.Self.Graph.meaning c.args.self.now in
    let first = g.Self.Graph.steady_count c.args.self.now visit.node in
    let all : c.loop-i.i - first ≡ meaning.arcs visit.node - first = omega (arith, c.steady.ensures.count) in
    let ways = ways_past meaning visit.node visit.at visit.letters first in
    let before = c.args.ways.now.items in
    adds_moving (g.Self.Graph.rides c.args.self.now) visit c.args.given.now c.args.given.now ways before c.loop-i.ways.items
    (adds_all (g.Self.Graph.rides c.args.self.now) visit.state c.args.given.now ways before c.loop-i.ways.items
    (c.loop-i.invariant ∙ ap (λ n. before ++ ways_from meaning visit.node visit.at visit.letters first n) all))
