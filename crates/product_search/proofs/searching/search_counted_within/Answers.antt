use Rattle.plan_base.proofs.Common.{◌∙◌, subst, ◌<◌}
use Rattle.product_search.proofs.{LimitLemmas.more_listed, SortLemmas.least_counted}
use Rattle.product_search.proofs.searching.search_counted_within.Goals as goal

pub returns-clause-labels : goal.returns-clause-labels
returns-clause-labels g c =
    let q = c.args.question.now in
    let graph = g.G.Graph.meaning q.graph.now in
    let labels = g.L.Labels.automaton q.machine.now.labels in
    let list = least_counted graph labels q.starts.now q.targets.now q.dep q.bound q.within c.in_ok-answered.answered.frontier c.in-Ended.best
    (rw c.in-Ended.is at c.in_ok-answered.ensures) in
    rw c.count_labels-labels.ensures list

pub returns-in-Some-clause-stopped : goal.returns-in-Some-clause-stopped
returns-in-Some-clause-stopped g c =
    let q = c.args.question.now in
    let graph = g.G.Graph.meaning q.graph.now in
    let labels = g.L.Labels.automaton q.machine.now.labels in
    let is = rw c.in-Ended.is at c.in_ok-answered.ensures in
    let list = least_counted graph labels q.starts.now q.targets.now q.dep q.bound q.within c.in_ok-answered.answered.frontier c.in-Ended.best is in
    let more = c.in-Some.ensures.more in (
      more.0,
      more_listed graph labels q.starts.now q.targets.now q.dep q.bound c.in-Ended.best.arrival is.arrival list.0 list.1
          c.in-Some.most (subst (λ n. c.in-Some.most < n) (c.count_labels-labels.ensures ∙ list.2) more.1),
    )
