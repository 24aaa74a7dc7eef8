use Rattle.plan_base.proofs.Common.{ℕ, List, length, subst, option_map}
use Rattle.planning.specs.{IsSettledCount}
use Rattle.sample_command.specs.{IsTravelTime, labels_counted, time_from}
use Rattle.sample_command.proofs.TimeLaws.{time_found, labels_found}
use Rattle.sample_command.proofs.times.time_of.Goals as goal

pub returns-clause-time : goal.returns-clause-time
returns-clause-time c =
    let n = c.args.network.now in
    let q = c.in-Ok.query in
    let h = option_map (λ h. h.now) c.args.hierarchy in
    let line = c.in-Ok.ensures.line in
    let found = c.in_ok-found.found in
    let is = time_found n c.known.ensures h q (rw line c.in-Ok.ensures.query) found.best found.labels.items c.in_ok-found.ensures.journey c.in_ok-found.ensures.certifiable in
    rw c.time_from-time.ensures (subst (λ (l : List ℕ). IsTravelTime n l (time_from q.depart found.best)) line is)

pub returns-clause-settled : goal.returns-clause-settled
returns-clause-settled c =
    let n = c.args.network.now in
    let q = c.in-Ok.query in
    let h = option_map (λ h. h.now) c.args.hierarchy in
    let line = c.in-Ok.ensures.line in
    let found = c.in_ok-found.found in
    let is = labels_found n c.known.ensures h q (rw line c.in-Ok.ensures.query) found.labels.items c.in_ok-found.ensures.labels in
    rw (c.counted-settled.ensures, c.deref.ensures.value) (subst (λ (l : List ℕ). IsSettledCount n h l (labels_counted h (length found.labels.items))) line is)
