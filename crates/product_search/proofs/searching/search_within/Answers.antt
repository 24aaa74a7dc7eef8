use Rattle.plan_base.proofs.Common.{arith}
use Rattle.product_search.proofs.{ListLemmas.least_labels, ListLemmas.reached_listed, ListLemmas.labels_in_time, ClosureLemmas.labels_closed, LimitLemmas.more_listed}
use Rattle.product_search.proofs.searching.search_within.Goals as goal

pub returns-clause-labels : goal.returns-clause-labels
returns-clause-labels g c =
    let q = c.args.question.now in
    least_labels (g.G.Graph.meaning q.graph.now) (g.L.Labels.automaton q.machine.now.labels) q.starts.now q.targets.now q.dep q.bound q.within
    c.in_ok-answered.answered.frontier c.in-Ended.best (rw c.in-Ended.is at c.in_ok-answered.ensures) c.in_ok-labels.labels.items c.in_ok-labels.ensures.sorted c.in_ok-labels.ensures.labels

pub returns-in-Some-clause-stopped : goal.returns-in-Some-clause-stopped
returns-in-Some-clause-stopped g c =
    let q = c.args.question.now in
    let graph = g.G.Graph.meaning q.graph.now in
    let labels = g.L.Labels.automaton q.machine.now.labels in
    let is = rw c.in-Ended.is at c.in_ok-answered.ensures in
    let least = least_labels graph labels q.starts.now q.targets.now q.dep q.bound q.within c.in_ok-answered.answered.frontier c.in-Ended.best is
    c.in_ok-labels.labels.items c.in_ok-labels.ensures.sorted c.in_ok-labels.ensures.labels in
    let more = c.in-Some.ensures.more in (
      more.0,
      more_listed graph labels q.starts.now q.targets.now q.dep q.bound c.in-Ended.best.arrival is.arrival c.in_ok-labels.labels.items least
          c.in-Some.most (omega (arith, more.1, c.len.ensures)),
    )

pub returns-clause-closed : goal.returns-clause-closed
returns-clause-closed g c unbounded =
    let q = c.args.question.now in
    let graph = g.G.Graph.meaning q.graph.now in
    let labels = g.L.Labels.automaton q.machine.now.labels in
    let is = rw c.in-Ended.is at c.in_ok-answered.ensures in
    labels_closed graph (g.met.G.Graph.lawful q.graph.now) labels (g.met.L.Labels.lawful q.machine.now.labels) q.starts.now q.targets.now q.starts_there q.dep q.bound c.in-Ended.best.arrival unbounded
    c.in_ok-labels.labels.items is.arrival (returns-clause-labels g c)
    (reached_listed graph labels q.starts.now q.targets.now q.dep q.bound q.within c.in_ok-answered.answered.frontier c.in-Ended.best is
    c.in_ok-labels.labels.items c.in_ok-labels.ensures.sorted c.in_ok-labels.ensures.labels)

pub returns-clause-times : goal.returns-clause-times
returns-clause-times g c =
    let q = c.args.question.now in
    let is = rw c.in-Ended.is at c.in_ok-answered.ensures in
    record {
      arrival = is.arrival_soon;
      labels = labels_in_time (g.G.Graph.meaning q.graph.now) (g.L.Labels.automaton q.machine.now.labels) q.starts.now q.targets.now q.dep q.bound q.within
          c.in_ok-answered.answered.frontier c.in-Ended.best is c.in_ok-labels.labels.items c.in_ok-labels.ensures.sorted c.in_ok-labels.ensures.labels;
      walk = is.walk_soon;
    }
