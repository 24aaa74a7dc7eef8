use Rattle.plan_base.proofs.Common.{◌∙◌, List, ℕ, refl, sym, ap, subst, Bor, option_map}
use Rattle.automaton.specs.{Positions, position_meaning, written, IsPositionAutomaton}
use Rattle.hierarchy.specs.declared.hierarchy.Hierarchy.{Hierarchy}
use Rattle.phase_graph.specs.{IsInUse, starts_in, ends_in, meaning_in_use}
use Rattle.mode_expression.specs.{form_of}
use Rattle.certificate.specs.{IsCertVerdict, claim_on}
use Rattle.certificate.proofs.VerifyLemmas.{few_copies, few_starts, low_nodes, automaton_denotes, labels_judged, valid_proves}
use Rattle.certificate.proofs.verifying.verify_claim.Goals as goal

pub starts_in-requires : goal.starts_in-requires
starts_in-requires c = rw c.deref-2.ensures.value (low_nodes c.args.network.now c.known.ensures c.in_ok-origins.origins.items c.in_ok-origins.ensures.nodes)

pub ends_in-requires : goal.ends_in-requires
ends_in-requires c = rw c.deref-3.ensures.value (low_nodes c.args.network.now c.known.ensures c.in_ok-targets.targets.items c.in_ok-targets.ensures.nodes)

pub result_verdict-requires-clause-set_up : goal.result_verdict-requires-clause-set_up
result_verdict-requires-clause-set_up c = record {
  origins = rw c.deref-4.ensures.value c.in_ok-origins.ensures.are;
  destinations = rw c.deref-5.ensures.value c.in_ok-targets.ensures.are;
  denotes = automaton_denotes c.args.query.now.expr c.new-automaton.result.inner _ c.new-automaton.ensures.same c.new-automaton.ensures.accepts c.in_ok-of.ensures.accepts;
  states = c.in_ok-start.ensures;
}

pub check_labels-verdict-requires-clause-few : goal.check_labels-verdict-requires-clause-few
check_labels-verdict-requires-clause-few c =
    let h = option_map (λ (x : Bor Hierarchy). x.now) c.args.hierarchy in
    let starts = c.in_ok-starts.ensures ∙ ap (starts_in h) c.deref-2.ensures.value in
    rw c.deref-6.ensures.value (few_starts h c.in_ok-origins.origins.items c.in_ok-starts.starts.items starts
    (few_copies c.args.network.now c.known.ensures c.in_ok-origins.origins.items c.in_ok-origins.ensures.are.ascending c.in_ok-origins.ensures.nodes))

pub returns-clause-verdict : goal.returns-clause-verdict
returns-clause-verdict c =
    let q = c.args.query.now in
    let h = option_map (λ (x : Bor Hierarchy). x.now) c.args.hierarchy in
    let n = c.args.network.now in
    let starts = c.in_ok-starts.ensures ∙ ap (starts_in h) c.deref-2.ensures.value in
    let ends = c.in_ok-ends.ensures ∙ ap (ends_in h) c.deref-3.ensures.value in
    let in_use = subst (λ (ts : List ℕ). IsInUse n h ts (meaning_in_use c.in_ok-graph.graph)) c.deref.ensures.value c.in_ok-graph.ensures.is in
    let verdict = rw (c.deref-6.ensures.value, c.deref-7.ensures.value, starts, ends, c.claimed_arrival.ensures) at c.check_labels-verdict.ensures.verdict in
    let positions = subst (λ (p : Positions). IsPositionAutomaton (written (form_of q.expr)) (position_meaning p)) (sym c.new-automaton.ensures.same) c.in_ok-of.ensures.states in
    rw c.as_verdict.ensures (labels_judged n h (claim_on q h c.args.claimed.now c.args.labels.now) q c.requires.asks refl
    (position_meaning c.new-automaton.result.inner) positions c.new-automaton.result.inner.lawful
    c.in_ok-origins.origins.items c.in_ok-targets.targets.items c.in_ok-origins.ensures.are c.in_ok-targets.ensures.are
    (meaning_in_use c.in_ok-graph.graph) in_use c.check_labels-verdict.result c.in_default.ensures verdict)

pub returns-clause-proves : goal.returns-clause-proves
returns-clause-proves c = λ valid.
    let q = c.args.query.now in
    let h = option_map (λ (x : Bor Hierarchy). x.now) c.args.hierarchy in
    let claim = claim_on q h c.args.claimed.now c.args.labels.now in
    valid_proves c.args.network.now c.known.ensures h c.in_ok-graph.ensures.sound claim (subst (IsCertVerdict c.args.network.now h claim) valid (returns-clause-verdict c))
