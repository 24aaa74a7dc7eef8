use Rattle.plan_base.proofs.Common.{◌≤◌, None, subst, IfSome}
use Rattle.product_search.specs.{last_time, QuestionMeaning, FindsArrival, FindsWalk}
use Rattle.automaton.specs.{position_meaning}
use Rattle.phase_graph.specs.{meaning_in_use}
use Rattle.planning.proofs.PlanLemmas.{walk_is_of, plan_for}
use Rattle.planning.proofs.plans.find_plain.Goals as goal

pub unpacked-requires : goal.unpacked-requires
unpacked-requires c =
    let s = c.in_ok-searched.searched in
    let walk = subst (λ (asked : QuestionMeaning). FindsWalk asked c.in_ok-found.found.arrival c.in_ok-found.found.walk) c.question.ensures c.in_ok-found.ensures.walk in
    walk_is_of c.args.network.now c.known.ensures None c.args.query.now (meaning_in_use s.graph) (position_meaning s.expressed.made.labels.inner) s.starts.items s.ends.items c.in_ok-searched.ensures.is _ _ walk

pub returns : goal.returns
returns c =
    let s = c.in_ok-searched.searched in
    let walk = subst (λ (asked : QuestionMeaning). FindsWalk asked c.in_ok-found.found.arrival c.in_ok-found.found.walk) c.question.ensures c.in_ok-found.ensures.walk in
    let arrival = subst (λ (asked : QuestionMeaning). FindsArrival asked c.in_ok-found.found.arrival) c.question.ensures c.in_ok-found.ensures.arrival in
    let time = subst (λ (asked : QuestionMeaning). IfSome c.in_ok-found.found.arrival (λ t. t ≤ last_time asked.dep)) c.question.ensures c.in_ok-found.ensures.time in
    let under = rw (c.in_ok-searched.ensures.network, c.in_ok-searched.ensures.hierarchy) at c.in_ok-route.ensures in
    plan_for c.args.network.now c.known.ensures None c.args.query.now (meaning_in_use s.graph) (position_meaning s.expressed.made.labels.inner) s.starts.items s.ends.items c.in_ok-searched.ensures.is
    _ _ _ arrival walk c.requires.soon time under
