use Rattle.plan_base.proofs.Common.{◌≤◌, Bor, subst, IfSome, option_map}
use Rattle.product_search.specs.{last_time, QuestionMeaning, CountsLabels, FindsArrival, FindsWalk, HasMore}
use Rattle.automaton.specs.{position_meaning}
use Rattle.hierarchy.specs.declared.hierarchy.Hierarchy.{Hierarchy}
use Rattle.phase_graph.specs.{meaning_in_use}
use Rattle.journey.specs.{asked_by}
use Rattle.planning.proofs.{PlanLemmas.walk_is_of, PlanLemmas.plan_for, LimitLemmas.at_most, LimitLemmas.has_count, LimitLemmas.has_more, LimitLemmas.told}
use Rattle.planning.proofs.plans.find_counted.Goals as goal

pub unpacked-requires : goal.unpacked-requires
unpacked-requires c =
    let s = c.in_ok-searched.searched in
    let h = option_map (λ (x : Bor Hierarchy). x.now) c.args.hierarchy in
    let walk = subst (λ (asked : QuestionMeaning). FindsWalk asked c.in-Ended.found.arrival c.in-Ended.found.walk) c.question.ensures (rw c.in-Ended.is at c.in_ok-found.ensures.walk) in
    walk_is_of c.args.network.now c.known.ensures h c.args.query.now (meaning_in_use s.graph) (position_meaning s.expressed.made.labels.inner) s.starts.items s.ends.items c.in_ok-searched.ensures.is _ _ walk

pub returns : goal.returns
returns c =
    let n = c.args.network.now in
    let q = c.args.query.now in
    let h = option_map (λ (x : Bor Hierarchy). x.now) c.args.hierarchy in
    let s = c.in_ok-searched.searched in
    let is = c.in_ok-searched.ensures.is in
    let g = meaning_in_use s.graph in
    let l = position_meaning s.expressed.made.labels.inner in
    let walk = subst (λ (asked : QuestionMeaning). FindsWalk asked c.in-Ended.found.arrival c.in-Ended.found.walk) c.question.ensures (rw c.in-Ended.is at c.in_ok-found.ensures.walk) in
    let arrival = subst (λ (asked : QuestionMeaning). FindsArrival asked c.in-Ended.found.arrival) c.question.ensures (rw c.in-Ended.is at c.in_ok-found.ensures.arrival) in
    let time = subst (λ (asked : QuestionMeaning). IfSome c.in-Ended.found.arrival (λ t. t ≤ last_time asked.dep)) c.question.ensures (rw c.in-Ended.is at c.in_ok-found.ensures.time) in
    let under = rw (c.in_ok-searched.ensures.network, c.in_ok-searched.ensures.hierarchy) at c.in_ok-journey.ensures in
    let counted = subst (λ (asked : QuestionMeaning). CountsLabels asked c.in-Ended.found.arrival c.in-Ended.found.labels) c.question.ensures (rw c.in-Ended.is at c.in_ok-found.ensures.labels) in
    let has = has_count n c.known.ensures h q g l s.starts.items s.ends.items is _ _ arrival counted in
    record {
      journey = plan_for n c.known.ensures h q g l s.starts.items s.ends.items is _ _ _ arrival walk c.requires.read.soon time under;
      settled = rw c.told_count.ensures (told n h (asked_by q) _ has);
      few = at_most n h (asked_by q) c.args.limit _ has (rw c.in-Ended.is at c.in_ok-found.ensures.few);
      stopped = tt;
    }

pub returns-in-Stopped-clause-stopped : goal.returns-in-Stopped-clause-stopped
returns-in-Stopped-clause-stopped c =
    let s = c.in_ok-searched.searched in
    let h = option_map (λ (x : Bor Hierarchy). x.now) c.args.hierarchy in
    let stopped = rw c.in-Stopped.is at c.in_ok-found.ensures.stopped in (
      stopped.0,
      has_more c.args.network.now c.known.ensures h c.args.query.now (meaning_in_use s.graph) (position_meaning s.expressed.made.labels.inner) s.starts.items s.ends.items
          c.in_ok-searched.ensures.is c.in-Stopped.most
          (subst (λ (asked : QuestionMeaning). HasMore asked c.in-Stopped.most) c.question.ensures stopped.1),
    )
