use Rattle.plan_base.proofs.Common.{◌≡◌, length, sym, ◌∙◌, subst, arith, false≢true}
use Rattle.product_search.specs.{start_states, pairs_at, AllListed}
use Rattle.product_search.proofs.{StartLemmas.counted_yes, StartLemmas.counted_no, StartLemmas.fails_in_states, start_check.unlisted_state.Goals.then-is_start+else-not-is_listed, start_check.unlisted_state.Goals.else-is_start}
use Rattle.product_search.proofs.start_check.unlisted_state.Goals as goal

pub returns-then-not-is_listed-clause-unlisted : goal.returns-then-not-is_listed-clause-unlisted
returns-then-not-is_listed-clause-unlisted g c =
    let labels = g.L.Labels.automaton c.args.labels.now in
    fails_in_states labels c.args.list.now c.args.dep c.args.node labels.states c.loop-state.state c.loop-state.count (omega arith) (sym c.is_start.ensures ∙ c.if-is_start.true)
    c.loop-state.invariant.counted c.loop-state.invariant.listed (λ listed. false≢true (sym c.if-not-is_listed.true ∙ c.is_listed.ensures.1 listed))

pub loop-state-preserved : goal.loop-state-preserved
loop-state-preserved g c =
    let labels = g.L.Labels.automaton c.args.labels.now in
    elim c.if-is_start.branch [
      | then-is_start+else-not-is_listed w ↦
          rw w.count-is (counted_yes labels c.args.list.now c.args.dep c.args.node c.loop-state.state c.loop-state.count c.loop-state.invariant (sym c.is_start.ensures ∙ w.if-is_start.true) (w.is_listed.ensures.0 w.if-not-is_listed.false))
      | else-is_start w ↦
          rw w.count-is (counted_no labels c.args.list.now c.args.dep c.args.node c.loop-state.state c.loop-state.count c.loop-state.invariant (sym c.is_start.ensures ∙ w.if-is_start.false))
    ]

pub returns-clause-listed : goal.returns-clause-listed
returns-clause-listed g c =
    let labels = g.L.Labels.automaton c.args.labels.now in
    let all : c.loop-state.state ≡ labels.states = omega arith in
    subst (λ q. (c.loop-state.count ≡ length (start_states labels q)) × AllListed c.args.list.now c.args.dep (pairs_at c.args.node (start_states labels q))) all
    (c.loop-state.invariant.counted, c.loop-state.invariant.listed)
