use Rattle.plan_base.proofs.Common.{◌∙◌, ◌+◌}
use Rattle.product_search.proofs.{GivenLemmas.none_given, StepLemmas.searching_begins, StepLemmas.scanning_range, StepLemmas.turn_smaller, StepLemmas.searching_over, StepLemmas.keeps_same, StepLemmas.way_still, LimitLemmas.more_before}
use Rattle.product_search.proofs.EndLemmas as end
use Rattle.product_search.proofs.correcting.explore_all.Goals as goal

pub search-init : goal.search-init
search-init g c =
    let q = c.args.question.now in
    let labels = g.L.Labels.automaton q.machine.now.labels in
    let offered = c.in_ok-offer_starts.ensures in
    record {
      searching = searching_begins (g.G.Graph.meaning q.graph.now) labels q.starts.now q.dep _ c.new-frontier.result c.offer_starts.new.frontier q.starts_there
          c.new-frontier.ensures.base c.new-frontier.ensures.no_rows c.new-frontier.ensures.no_ways offered.offers offered.right offered.reached;
      given = none_given labels (g.G.Graph.rides q.graph.now) c.offer_starts.new.frontier c.new-given.result c.new-given.ensures;
      goes_to = offered.offers.until ∙ c.new-frontier.ensures.until ∙ c.until_of-until.ensures;
    }

pub is_end-requires : goal.is_end-requires
is_end-requires g c =
    let q = c.args.question.now in
    let labels = g.L.Labels.automaton q.machine.now.labels in
    let takes = (rw c.in-Some.is at c.in_ok-scan.ensures.some) in
    (scanning_range (g.G.Graph.meaning q.graph.now) labels q.starts.now q.dep _ c.take.new.self c.in-Some.scan
    (end.scanning (g.G.Graph.meaning q.graph.now) labels q.starts.now q.targets.now q.dep q.bound c.search.frontier c.take.new.self c.in-Some.scan takes c.search.invariant.searching)).1

pub search-preserved-then-is_end : goal.search-preserved-then-is_end
search-preserved-then-is_end g c =
    let q = c.args.question.now in
    let graph = g.G.Graph.meaning q.graph.now in
    let labels = g.L.Labels.automaton q.machine.now.labels in
    let s = c.in-Some.scan in
    let takes = (rw c.in-Some.is at c.in_ok-scan.ensures.some) in
    let was = c.search.invariant in
    record {
      searching = end.searching_to graph labels q.starts.now q.targets.now q.dep q.bound c.search.frontier c.take.new.self s takes was.searching;
      given = end.given_to graph labels q.starts.now q.targets.now q.dep q.bound c.search.frontier c.take.new.self s takes was.searching (g.G.Graph.rides q.graph.now) c.search.given was.given;
      goes_to = end.goes_to graph labels q.starts.now q.targets.now q.dep q.bound c.search.frontier c.take.new.self s takes was.searching q.within
          (end.is_end labels q.targets.now c.in_ok-ends.ends s.node s.state c.in_ok-ends.ensures c.if-is_end.ensures) c.search.end was.goes_to;
    }

pub explore-requires-clause-node : goal.explore-requires-clause-node
explore-requires-clause-node g c =
    let q = c.args.question.now in
    let labels = g.L.Labels.automaton q.machine.now.labels in
    (scanning_range (g.G.Graph.meaning q.graph.now) labels q.starts.now q.dep _ c.take.new.self c.in-Some.scan
    (end.scanning (g.G.Graph.meaning q.graph.now) labels q.starts.now q.targets.now q.dep q.bound c.search.frontier c.take.new.self c.in-Some.scan
    (rw c.in-Some.is at c.in_ok-scan.ensures.some) c.search.invariant.searching)).0

pub explore-requires-clause-state : goal.explore-requires-clause-state
explore-requires-clause-state g c =
    let q = c.args.question.now in
    let labels = g.L.Labels.automaton q.machine.now.labels in
    (scanning_range (g.G.Graph.meaning q.graph.now) labels q.starts.now q.dep _ c.take.new.self c.in-Some.scan
    (end.scanning (g.G.Graph.meaning q.graph.now) labels q.starts.now q.targets.now q.dep q.bound c.search.frontier c.take.new.self c.in-Some.scan
    (rw c.in-Some.is at c.in_ok-scan.ensures.some) c.search.invariant.searching)).1

pub explore-requires-clause-given : goal.explore-requires-clause-given
explore-requires-clause-given g c =
    let q = c.args.question.now in
    end.given_taken (g.G.Graph.meaning q.graph.now) (g.L.Labels.automaton q.machine.now.labels) q.starts.now q.targets.now q.dep q.bound c.search.frontier c.take.new.self c.in-Some.scan
    (rw c.in-Some.is at c.in_ok-scan.ensures.some) (g.G.Graph.rides q.graph.now) c.search.given c.search.invariant.given

pub search-smaller : goal.search-smaller
search-smaller g c = turn_smaller c.search.frontier c.take.new.self c.explore.new.frontier c.in-Some.scan _ (rw c.in-Some.is at c.in_ok-scan.ensures.some)
    c.in_ok-explore.ensures.offers c.in_ok-explore.ensures.right

pub search-preserved : goal.search-preserved
search-preserved g c =
    let q = c.args.question.now in
    let graph = g.G.Graph.meaning q.graph.now in
    let labels = g.L.Labels.automaton q.machine.now.labels in
    let s = c.in-Some.scan in
    let takes = (rw c.in-Some.is at c.in_ok-scan.ensures.some) in
    let explored = c.in_ok-explore.ensures in
    let was = c.search.invariant in
    record {
      searching = end.explored graph labels q.starts.now q.targets.now q.dep q.bound c.search.frontier c.take.new.self s takes was.searching
          (g.met.G.Graph.lawful q.graph.now) (g.met.L.Labels.lawful q.machine.now.labels) c.explore.new.frontier explored.offers explored.right explored.reached
          (end.is_no_end labels q.targets.now c.in_ok-ends.ends s.node s.state c.in_ok-ends.ensures (q.dep + s.delay) c.if-is_end.ensures);
      given = explored.given;
      goes_to = end.goes_explored graph labels q.starts.now q.targets.now q.dep q.bound c.search.frontier c.take.new.self s takes was.searching
          (g.met.G.Graph.lawful q.graph.now) (g.met.L.Labels.lawful q.machine.now.labels) c.explore.new.frontier explored.offers c.search.end was.goes_to;
    }

pub returns-in-Some-passed_before : goal.returns-in-Some-passed_before
returns-in-Some-passed_before g c =
    let q = c.args.question.now in
    let graph = g.G.Graph.meaning q.graph.now in
    let labels = g.L.Labels.automaton q.machine.now.labels in
    let s = c.in-Some.scan in
    let takes = (rw c.in-Some.is at c.in_ok-scan.ensures.some) in
    let explored = c.in_ok-explore.ensures in
    let was = c.search.invariant in
    let passed = c.in-Some-passed_before.ensures in
    record {
      right = explored.right;
      limit_is = passed.0;
      more = more_before graph (g.met.G.Graph.lawful q.graph.now) labels q.starts.now q.targets.now q.dep q.bound q.within c.explore.new.frontier
          (end.explored graph labels q.starts.now q.targets.now q.dep q.bound c.search.frontier c.take.new.self s takes was.searching
          (g.met.G.Graph.lawful q.graph.now) (g.met.L.Labels.lawful q.machine.now.labels) c.explore.new.frontier explored.offers explored.right explored.reached
          (end.is_no_end labels q.targets.now c.in_ok-ends.ends s.node s.state c.in_ok-ends.ensures (q.dep + s.delay) c.if-is_end.ensures))
          c.search.end (end.goes_explored graph labels q.starts.now q.targets.now q.dep q.bound c.search.frontier c.take.new.self s takes was.searching
          (g.met.G.Graph.lawful q.graph.now) (g.met.L.Labels.lawful q.machine.now.labels) c.explore.new.frontier explored.offers c.search.end was.goes_to)
          c.in-Some-passed_before.most passed.1;
    }

pub returns : goal.returns
returns g c =
    let q = c.args.question.now in
    let graph = g.G.Graph.meaning q.graph.now in
    let labels = g.L.Labels.automaton q.machine.now.labels in
    let over = (rw c.in_default.is at c.in_ok-scan.ensures.none) in
    record {
      searched = searching_over graph (g.met.G.Graph.lawful q.graph.now) labels q.starts.now q.dep _ c.search.frontier c.take.new.self c.search.invariant.searching over;
      goes_to = end.goes_on labels q.targets.now q.dep q.bound c.search.frontier c.take.new.self over.same.base over.same.until (keeps_same c.search.frontier c.take.new.self over.same.rows)
          (way_still c.search.frontier c.take.new.self over.same) c.search.end c.search.invariant.goes_to;
    }
