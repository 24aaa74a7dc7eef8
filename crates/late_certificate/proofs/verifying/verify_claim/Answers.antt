use Rattle.plan_base.proofs.Common.{refl, sym, subst, arith}
use Rattle.mode_network.specs.{NetworkLists.NetworkLists, IsTimetableOf}
use Rattle.service_days.specs.{AreDays, AreRisingDays}
use Rattle.journey.specs.{asked_by, KeepsRules}
use Rattle.certificate.proofs.VerifyLemmas.{automaton_denotes, few_copies}
use Rattle.latest_departure.specs.{AreSwappedEnds}
use Rattle.latest_departure.proofs.ValidLemmas.{valid_late_proves}
use Rattle.late_certificate.specs.{IsLateVerdict, claim_on}
use Rattle.late_certificate.proofs.VerifyLemmas.{result_holds, starts_by, bound_small, search_judged}
use Rattle.late_certificate.proofs.verifying.verify_claim.Goals as goal

pub result_verdict-requires-clause-set_up : goal.result_verdict-requires-clause-set_up
result_verdict-requires-clause-set_up c =
    let q = c.args.query.now in
    let s = c.in_ok-search.search in
    let ends = subst (λ (n : NetworkLists). AreSwappedEnds n (asked_by q) s.starts.items s.targets.items) c.in_ok-backwards.ensures c.in_ok-search.ensures.ends in
    record {
      origins = rw c.deref.ensures.value ends.origin;
      destinations = rw c.deref-2.ensures.value ends.destination;
      denotes = automaton_denotes q.expr c.new-automaton.result.inner _ c.new-automaton.ensures.same c.new-automaton.ensures.accepts c.in_ok-of.ensures.accepts;
      states = c.in_ok-start.ensures;
    }

pub late_bound-bound-requires-clause-in_time : goal.late_bound-bound-requires-clause-in_time
late_bound-bound-requires-clause-in_time c =
    let n = c.args.network.now in
    let k = c.known-3.ensures in
    let of = subst (λ (m : NetworkLists). IsTimetableOf m c.in_ok-backwards.backwards.table) c.in_ok-backwards.ensures k.of in
    starts_by n c.known.ensures c.in_ok-backwards.backwards.table k.keeps of (asked_by c.args.query.now) c.args.claimed.now
    (result_holds n (asked_by c.args.query.now) c.args.claimed.now c.in_default.ensures)

pub check_labels-verdict-requires-clause-arrival : goal.check_labels-verdict-requires-clause-arrival
check_labels-verdict-requires-clause-arrival c =
    let b = c.in_ok-backwards.backwards in
    let is = c.in_ok-search.ensures in
    let bound = c.late_bound-bound.ensures b.network (asked_by c.args.query.now) refl (sym is.back_to) in
    let small = bound_small b.network (asked_by c.args.query.now) c.args.claimed.now is.small in
    omega arith

pub check_labels-verdict-requires-clause-few : goal.check_labels-verdict-requires-clause-few
check_labels-verdict-requires-clause-few c =
    let ends = c.in_ok-search.ensures.ends in
    rw c.deref-3.ensures.value (few_copies c.in_ok-backwards.backwards.network c.known-3.ensures.network c.in_ok-search.search.starts.items ends.destination.ascending ends.start_nodes)

pub returns-clause-verdict : goal.returns-clause-verdict
returns-clause-verdict c =
    let b = c.in_ok-backwards.backwards in
    let n = c.args.network.now in
    let q = asked_by c.args.query.now in
    let is = c.in_ok-search.ensures in
    let claim = claim_on c.args.query.now c.args.claimed.now c.args.labels.now in
    rw c.as_verdict.ensures (search_judged b c.known-3.ensures q c.in_ok-search.search is n c.in_ok-backwards.ensures claim c.requires.asks
    (result_holds n q c.args.claimed.now c.in_default.ensures) _ _ c.deref-3.ensures.value c.deref-ends.ensures.value
    _ (c.late_bound-bound.ensures b.network q refl (sym is.back_to)) c.check_labels-verdict.result c.check_labels-verdict.ensures.verdict)

pub returns-clause-proves : goal.returns-clause-proves
returns-clause-proves c = λ valid.
    let n = c.args.network.now in
    let rules : KeepsRules n = record { network = c.known.ensures; days = subst AreDays c.days.ensures c.known-2.ensures.days; order = subst AreRisingDays c.days.ensures c.known-2.ensures.order } in
    let claim = claim_on c.args.query.now c.args.claimed.now c.args.labels.now in
    valid_late_proves n rules claim (subst (IsLateVerdict n claim) valid (returns-clause-verdict c))
