use Rattle.plan_base.proofs.Common.{◌∙◌, ◌<◌, ◌^◌, ℕ, List, length, slice_index, sym, ap, subst, subst₂, arith}
use Rattle.sweeps.specs.{time_at}
use Rattle.rounds.specs.inside.{asked_of, AddsLabels, IsRowLabel, IsCrossingLabel, never}
use Rattle.rounds.proofs.RowLemmas.{row_is}
use Rattle.rounds.proofs.ListLemmas.{adds_none, adds_same, IsCrossingBelow, crossings_more, reached_low}
use Rattle.rounds.proofs.asked.Asked.list_crossings.Goals as goal

pub loop-state-init : goal.loop-state-init
loop-state-init g c = adds_none (IsCrossingBelow (asked_of c.args.self.now) c.args.rows.now 0) c.args.labels.now.items (λ x below. omega (arith, below.1))

pub push_labels-requires-clause-one_each : goal.push_labels-requires-clause-one_each
push_labels-requires-clause-one_each g c =
    let rows = c.args.rows.now in
    let q = c.loop-state.state in
    let shape = c.requires.reached.shape in
    let low : q < length rows = omega (arith, c.loop-state-test.true, c.states-state-end.ensures, shape.count_is) in
    let row = row_is rows q c.index-rows-state.result low c.index-rows-state.is in
    ap length (c.deref-in-loop-state.ensures.value ∙ sym row) ∙ shape.width_is q (omega (arith, low, shape.count_is)) ∙ ap length (sym c.deref.ensures.value)

pub push_labels-requires-clause-low : goal.push_labels-requires-clause-low
push_labels-requires-clause-low g c = λ i lt some.
    (let a = asked_of c.args.self.now in
    let rows = c.args.rows.now in
    let q = c.loop-state.state in
    let shape = c.requires.reached.shape in
    let low : q < length rows = omega (arith, c.loop-state-test.true, c.states-state-end.ensures, shape.count_is) in
    let is = c.deref-in-loop-state.ensures.value ∙ sym (row_is rows q c.index-rows-state.result low c.index-rows-state.is) in
    let state : q < a.labels.states = omega (arith, low, shape.count_is) in
    let within : i < length a.rounds.crossings.items = omega (arith, lt, ap length is, shape.width_is q state) in
    let reached = c.requires.reached.reached q i state within (subst (λ (xs : List ℕ). time_at xs i < never) is some) in
    let p = reached_low a c.requires.is c.requires.starts (g.met.L.Labels.lawful c.args.self.now.machine.now.labels) _ _ _ reached in
    subst (λ (xs : List ℕ). slice_index xs i < 2 ^ 31) (sym c.deref.ensures.value) (omega (arith, p)))

pub loop-state-preserved : goal.loop-state-preserved
loop-state-preserved g c =
    let a = asked_of c.args.self.now in
    let rows = c.args.rows.now in
    let q = c.loop-state.state in
    let shape = c.requires.reached.shape in
    let low : q < length rows = omega (arith, c.loop-state-test.true, c.states-state-end.ensures, shape.count_is) in
    let state : q < a.labels.states = omega (arith, low, shape.count_is) in
    let is = c.deref-in-loop-state.ensures.value ∙ sym (row_is rows q c.index-rows-state.result low c.index-rows-state.is) in
    crossings_more a rows q c.args.labels.now.items c.loop-state.labels.items c.push_labels.new.labels.items state (shape.width_is q state) c.loop-state.invariant
    (subst₂ (λ (nodes delays : List ℕ). AddsLabels (IsRowLabel nodes delays q a.dep (length delays)) c.loop-state.labels.items c.push_labels.new.labels.items) c.deref.ensures.value is c.in_ok-push_labels.ensures)

pub returns : goal.returns
returns g c =
    let a = asked_of c.args.self.now in
    let rows = c.args.rows.now in
    adds_same (IsCrossingBelow a rows c.loop-state.state) (IsCrossingLabel a rows) c.args.labels.now.items c.loop-state.labels.items c.loop-state.invariant (λ x below. below.0)
    (λ x label. (label, omega (arith, label.is_state, c.loop-state-test.false, c.states-state-end.ensures)))
