use Rattle.plan_base.proofs.Common.{Bor, subst, option_map}
use Rattle.product_search.specs.{QuestionMeaning, FindsArrival}
use Rattle.automaton.specs.{collapsed, position_meaning}
use Rattle.hierarchy.specs.declared.hierarchy.Hierarchy.{Hierarchy}
use Rattle.phase_graph.specs.{meaning_in_use}
use Rattle.journey.specs.{asked_by}
use Rattle.planning.proofs.ArrivalLemmas.{best_arrival}
use Rattle.planning.proofs.plans.best_arrival.Goals as goal

pub returns : goal.returns
returns c =
    let s = c.in_ok-searched.searched in
    let is = c.in_ok-searched.ensures.is in
    let arrival = rw (is.starts_are, is.ends_are) at (subst (λ (asked : QuestionMeaning). FindsArrival asked c.in_ok-found.found.arrival) c.question.ensures c.in_ok-found.ensures.arrival) in
    best_arrival c.args.network.now c.known.ensures (option_map (λ (x : Bor Hierarchy). x.now) c.args.hierarchy) is.sound is.targets (meaning_in_use s.graph) is.in_use
    (asked_by c.args.query.now) (collapsed (position_meaning s.expressed.made.labels.inner)) is.denotes is.origins is.targets is.origin is.destination (λ v there. there) _ arrival
