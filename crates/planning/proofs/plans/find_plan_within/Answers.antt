use Rattle.plan_base.proofs.Common.{ℕ, Option, Bor, refl, sym, ap, subst, arith, option_map}
use Rattle.product_search.specs.{QuestionMeaning, FindsArrival, FindsWalk, HasMore, ListsClosed, ListsLabels, IsByLastTime, IsClosed}
use Rattle.automaton.specs.{collapsed, position_meaning}
use Rattle.hierarchy.specs.declared.hierarchy.Hierarchy.{Hierarchy}
use Rattle.phase_graph.specs.{starts_in, ends_in, meaning_in_use}
use Rattle.mode_network.specs.{Route}
use Rattle.journey.specs.{asked_by}
use Rattle.planning.specs.{IsPlan, IsCertifiable, route_of}
use Rattle.planning.proofs.{PlanLemmas.walk_is_of, PlanLemmas.found_for, LimitLemmas.has_labels, LimitLemmas.has_more}
use Rattle.planning.proofs.plans.find_plan_within.Goals as goal

pub unpacked-requires : goal.unpacked-requires
unpacked-requires c =
    let s = c.in_ok-searched.searched in
    let h = option_map (λ (x : Bor Hierarchy). x.now) c.args.hierarchy in
    let walk = subst (λ (asked : QuestionMeaning). FindsWalk asked c.in-Ended.found.arrival c.in-Ended.found.walk) c.question.ensures (rw c.in-Ended.is at c.in_ok-found.ensures.walk) in
    walk_is_of c.args.network.now c.known.ensures h c.args.query.now (meaning_in_use s.graph) (position_meaning s.expressed.made.labels.inner) s.starts.items s.ends.items c.in_ok-searched.ensures.is _ _ walk

pub returns : goal.returns
returns c =
    let n = c.args.network.now in
    let q = c.args.query.now in
    let h = option_map (λ (x : Bor Hierarchy). x.now) c.args.hierarchy in
    let s = c.in_ok-searched.searched in
    let is = c.in_ok-searched.ensures.is in
    let g = meaning_in_use s.graph in
    let l = position_meaning s.expressed.made.labels.inner in
    let listed = c.in-Ended.found.labels.items in
    let walk = subst (λ (asked : QuestionMeaning). FindsWalk asked c.in-Ended.found.arrival c.in-Ended.found.walk) c.question.ensures (rw c.in-Ended.is at c.in_ok-found.ensures.walk) in
    let arrival = subst (λ (asked : QuestionMeaning). FindsArrival asked c.in-Ended.found.arrival) c.question.ensures (rw c.in-Ended.is at c.in_ok-found.ensures.arrival) in
    let least = subst (λ (asked : QuestionMeaning). ListsLabels asked c.in-Ended.found.arrival c.in-Ended.found.labels.items) c.question.ensures (rw c.in-Ended.is at c.in_ok-found.ensures.labels) in
    let closed = rw (is.starts_are, is.ends_are) at (subst (λ (asked : QuestionMeaning). ListsClosed asked c.in-Ended.found.arrival c.in-Ended.found.labels.items) c.question.ensures ((rw c.in-Ended.is at c.in_ok-found.ensures.closed) (ap (λ (asked : QuestionMeaning). asked.bound) c.question.ensures))) in
    let times : IsByLastTime q.depart c.in-Ended.found =
    subst (λ (asked : QuestionMeaning). IsByLastTime asked.dep c.in-Ended.found) c.question.ensures (rw c.in-Ended.is at c.in_ok-found.ensures.times) in
    let under = rw (c.in_ok-searched.ensures.network, c.in_ok-searched.ensures.hierarchy) at c.in_ok-journey.ensures in
    let found = found_for n c.known.ensures h q g l s.starts.items s.ends.items is _ _ _ arrival walk c.requires.read.soon times.arrival under in
    let best = sym c.with_arrival-best.ensures in
    record {
      journey = subst (λ (b : Option (ℕ × Route)). IsPlan n (asked_by q) (route_of b)) best found.plan;
      labels = has_labels n c.known.ensures h q g l s.starts.items s.ends.items is c.in-Ended.found.arrival listed arrival least;
      certifiable = subst (λ (b : Option (ℕ × Route)). IsCertifiable n h q b listed) best (record {
        valid = record {
          setting = record {
            asked = asked_by q;
            asks = c.requires.read.asks;
            origins = is.origins;
            targets = is.targets;
            origin = is.origin;
            destination = is.destination;
            graph = g;
            in_use = is.in_use;
            automaton = l;
            positions = is.positions;
            lawful = is.lawful;
          };
          phases = refl;
          holds = found.holds;
          closed = subst (λ (a : Option ℕ). IsClosed g (collapsed l) (starts_in h is.origins) (ends_in h is.targets) q.depart a listed) (sym found.same) closed;
        };
        asked = refl;
        result = found.fits;
        labels_fit = λ k d lt. (let soon = c.requires.read.soon in let le = times.labels k d lt in omega arith);
      });
      few = rw c.in-Ended.is at c.in_ok-found.ensures.few;
      stopped = tt;
    }

pub returns-in-Stopped-clause-stopped : goal.returns-in-Stopped-clause-stopped
returns-in-Stopped-clause-stopped c =
    let s = c.in_ok-searched.searched in
    let h = option_map (λ (x : Bor Hierarchy). x.now) c.args.hierarchy in
    let stopped = rw c.in-Stopped.is at c.in_ok-found.ensures.stopped in (
      stopped.0,
      has_more c.args.network.now c.known.ensures h c.args.query.now (meaning_in_use s.graph) (position_meaning s.expressed.made.labels.inner) s.starts.items s.ends.items
          c.in_ok-searched.ensures.is c.in-Stopped.most
          (subst (λ (asked : QuestionMeaning). HasMore asked c.in-Stopped.most) c.question.ensures stopped.1),
    )
