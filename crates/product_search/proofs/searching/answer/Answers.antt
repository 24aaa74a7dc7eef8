use Rattle.product_search.proofs.{EndLemmas.arrives, EndLemmas.ends_with, TrailLemmas.has_parents, TrailLemmas.link_of, TrailLemmas.walk_for, TrailLemmas.arrival_in_time, TrailLemmas.walk_soon}
use Rattle.product_search.proofs.searching.answer.Goals as goal

pub walk_to-requires-clause-parents : goal.walk_to-requires-clause-parents
walk_to-requires-clause-parents g c =
    let q = c.args.question.now in
    let is = rw c.in-Ended.is at c.in_ok-explored.ensures in
    has_parents (g.G.Graph.meaning q.graph.now) (g.L.Labels.automaton q.machine.now.labels) q.starts.now c.in_ok-explored.explored.frontier is.searched.traced

pub walk_to-requires-clause-link : goal.walk_to-requires-clause-link
walk_to-requires-clause-link g c =
    let q = c.args.question.now in
    let is = rw c.in-Ended.is at c.in_ok-explored.ensures in
    link_of (g.L.Labels.automaton q.machine.now.labels) q.targets.now q.dep q.bound c.in_ok-explored.explored.frontier c.in-Ended.end is.goes_to

pub returns-in_ok-walk-in-Ended : goal.returns-in_ok-walk-in-Ended
returns-in_ok-walk-in-Ended g c =
    let q = c.args.question.now in
    let graph = g.G.Graph.meaning q.graph.now in
    let labels = g.L.Labels.automaton q.machine.now.labels in
    let f = c.in_ok-explored.explored.frontier in
    let end = c.in-Ended.end in
    let walk = c.in_ok-walk-in-Ended.walk in
    let is = rw c.in-Ended.is at c.in_ok-explored.ensures in
    rw c.arrival_of-arrival.ensures (record {
      searched = is.searched;
      ends_with = ends_with labels q.targets.now q.dep q.bound f end is.goes_to;
      arrival = arrives graph labels q.starts.now q.targets.now q.dep q.bound f is.searched end is.goes_to;
      walk = walk_for graph labels q.starts.now q.targets.now q.dep q.bound f is.searched.base is.searched.traced end walk is.goes_to c.in_ok-walk-in-Ended.ensures;
      arrival_soon = arrival_in_time labels q.targets.now q.dep q.bound f is.searched.base end is.goes_to;
      walk_soon = walk_soon f q.dep is.searched.base end walk c.in_ok-walk-in-Ended.ensures;
    })
