use Rattle.plan_base.proofs.Common.{◌≡◌, ◌+◌, ◌<◌, ◌∙◌, [], ◌∷◌, ◌++◌, List, sym, subst, ap, arith}
use Rattle.timetable_arcs.specs.{Instance, Ride}
use Rattle.departures.specs.{FastestCall, IsNoFaster, inside.calls_from}
use Rattle.departures.proofs.FastestLemmas.{none_faster_more}
use Rattle.departures.proofs.fastest.fastest_runs.Goals as goal

pub loop-pattern-preserved : goal.loop-pattern-preserved
loop-pattern-preserved c =
    let t = c.args.timetable.now in
    let old = c.loop-pattern.runs.items in
    let stretches = c.in_ok-stretches.stretches.items in
    let made : c.in_ok-run_of.field-0 ≡ calls_from 0 stretches = c.in_ok-run_of.ensures ∙ ap (calls_from 0) c.deref.ensures.value in
    let is : c.push.new.self.items ≡ old ++ calls_from 0 stretches ∷ [] = c.in_ok-push.ensures.items ∙ ap (λ (calls : List FastestCall). old ++ calls ∷ []) made in
    record {
      len = omega (arith, c.in_ok-push.ensures.len, c.loop-pattern.invariant.len);
      none = subst (λ (runs : List (List FastestCall)). (run : Instance) (ride : Ride) → ride.pattern < c.loop-pattern.pattern + 1 → IsNoFaster t runs run ride) (sym is)
          (none_faster_more t c.known.ensures c.loop-pattern.pattern stretches c.in_ok-stretches.ensures old c.loop-pattern.invariant.len c.loop-pattern.invariant.none);
    }
