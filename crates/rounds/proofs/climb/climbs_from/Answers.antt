use Rattle.plan_base.proofs.Common.{ℕ, List, subst}
use Rattle.rounds.specs.inside.{nodes_of_rungs, Rung, AreClimbedAll, AreClimbsOf}
use Rattle.rounds.proofs.ClimbLemmas.{climbs_listed}
use Rattle.rounds.proofs.climb.climbs_from.Goals as goal

pub returns : goal.returns
returns c =
    let rungs : List Rung = c.in_ok-rungs.rungs.items in
    let delays = c.in-Some.delays.items in
    let climbs = c.in_ok-climbs.climbs.items in
    let all = subst (λ (xs : List Rung). AreClimbedAll c.args.h.now c.args.start (nodes_of_rungs xs) delays) c.deref.ensures.value (rw c.in-Some.is at c.in_ok-delays.ensures) in
    let listed = subst (λ (xs : List ℕ). AreClimbsOf (nodes_of_rungs rungs) xs climbs) c.deref-3.ensures.value
    (subst (λ (xs : List Rung). AreClimbsOf (nodes_of_rungs xs) c.deref-3.result.now climbs) c.deref-2.ensures.value c.in_ok-climbs.ensures) in
    climbs_listed c.args.h.now c.args.start (nodes_of_rungs rungs) delays climbs all listed
