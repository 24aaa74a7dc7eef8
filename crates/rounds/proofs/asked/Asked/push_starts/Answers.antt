use Rattle.plan_base.proofs.Common.{◌∙◌, ◌+◌, List, Vec, Global, ap, sym, subst, arith, false≢true}
use Rattle.product_search.specs.{Label}
use Rattle.rounds.specs.inside.{asked_of, AddsLabels, IsStartLabel}
use Rattle.rounds.proofs.ListLemmas.{adds_none, adds_same}
use Rattle.rounds.proofs.FirstLemmas.{IsStartBelow, start_more, start_passes}
use Rattle.rounds.proofs.asked.Asked.push_starts.Goals.{then-is_start+in_ok-push, else-is_start}
use Rattle.rounds.proofs.asked.Asked.push_starts.Goals as goal

pub loop-state-init : goal.loop-state-init
loop-state-init g c = adds_none (IsStartBelow (asked_of {l = g.L.Labels} c.args.self.now) c.args.start 0) c.args.labels.now.items (λ x l. omega (arith, l.1))

pub loop-state-preserved : goal.loop-state-preserved
loop-state-preserved g c =
    let a = asked_of {l = g.L.Labels} c.args.self.now in
    let old : List Label = c.args.labels.now.items in
    let now = c.loop-state.labels.items in
    let n = c.loop-state.state in
    elim c.if-is_start.branch [
      | then-is_start+in_ok-push w ↦ subst (AddsLabels (IsStartBelow a c.args.start (n + 1)) old) (sym (ap (λ (v : Vec Label Global). v.items) w.labels-is ∙ w.in_ok-push.ensures.items))
          (start_more a c.args.start n old now c.loop-state.invariant (omega (arith, c.loop-state-test.true, c.states-state-end.ensures)) (sym c.is_start.ensures ∙ w.if-is_start.true))
      | else-is_start w ↦ subst (AddsLabels (IsStartBelow a c.args.start (n + 1)) old) (sym (ap (λ (v : Vec Label Global). v.items) w.labels-is))
          (start_passes a c.args.start n old now c.loop-state.invariant (λ is. false≢true (sym w.if-is_start.false ∙ c.is_start.ensures ∙ is)))
    ]

pub returns : goal.returns
returns g c =
    let a = asked_of {l = g.L.Labels} c.args.self.now in
    adds_same (IsStartBelow a c.args.start c.loop-state.state) (IsStartLabel a c.args.start) c.args.labels.now.items c.loop-state.labels.items c.loop-state.invariant (λ x l. l.0)
    (λ x l. (l, omega (arith, l.is_state, c.loop-state-test.false, c.states-state-end.ensures)))
