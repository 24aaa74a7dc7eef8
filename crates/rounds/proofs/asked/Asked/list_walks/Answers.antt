use Rattle.plan_base.proofs.Common.{◌≡◌, ◌∙◌, ◌<◌, ◌^◌, ℕ, List, Some, length, slice_get, slice_get_read, slice_get_within, slice_index, All-contains, refl, sym, ap, subst, subst₂, arith}
use Rattle.sweeps.specs.{time_at}
use Rattle.rounds.specs.inside.{asked_of, IsLayerOf, IsTurn, AddsLabels, IsRowLabel, IsWalkLabel, never}
use Rattle.rounds.proofs.RowLemmas.{row_is}
use Rattle.rounds.proofs.ListLemmas.{adds_none, adds_same, IsWalkBelow, walks_more, reached_low}
use Rattle.rounds.proofs.asked.Asked.list_walks.Goals as goal

pub loop-row-init : goal.loop-row-init
loop-row-init g c = adds_none (IsWalkBelow (asked_of c.args.self.now) c.args.turns.now c.args.walks.now 0) c.args.labels.now.items (λ x below. omega (arith, below.1))

pub push_labels-requires-clause-one_each : goal.push_labels-requires-clause-one_each
push_labels-requires-clause-one_each g c =
    let a = asked_of c.args.self.now in
    let turns = c.args.turns.now in
    let walks = c.args.walks.now in
    let k = c.loop-row.row in
    let turn = c.index-turns-row.result in
    let layer = c.index-layer.result.now in
    let is_turn : slice_get turns k ≡ Some turn = slice_get_read turns (length turns) k turn refl c.loop-row-test.true c.index-turns-row.is in
    let letter = (All-contains (IsTurn a.labels) turns turn c.requires.turns.are (k, c.loop-row-test.true, sym c.index-turns-row.is)).letter in
    let is_layer : IsLayerOf a turn.letter layer = slice_get_read a.rounds.layers.items 3 turn.letter layer (sym c.requires.is.many) letter c.index-layer.ensures in
    let reached = c.requires.reached.1 k turn layer is_turn is_layer in
    let low : k < length walks = omega (arith, c.loop-row-test.true, c.requires.reached.0) in
    let is = c.deref.ensures.value ∙ sym (row_is walks k c.index-walks-row.result low c.index-walks-row.is) in
    ap length is ∙ reached.as_many ∙ ap length (sym c.nodes.ensures)

pub push_labels-requires-clause-low : goal.push_labels-requires-clause-low
push_labels-requires-clause-low g c = λ i lt some.
    (let a = asked_of c.args.self.now in
    let turns = c.args.turns.now in
    let walks = c.args.walks.now in
    let k = c.loop-row.row in
    let turn = c.index-turns-row.result in
    let layer = c.index-layer.result.now in
    let is_turn : slice_get turns k ≡ Some turn = slice_get_read turns (length turns) k turn refl c.loop-row-test.true c.index-turns-row.is in
    let letter = (All-contains (IsTurn a.labels) turns turn c.requires.turns.are (k, c.loop-row-test.true, sym c.index-turns-row.is)).letter in
    let is_layer : IsLayerOf a turn.letter layer = slice_get_read a.rounds.layers.items 3 turn.letter layer (sym c.requires.is.many) letter c.index-layer.ensures in
    let reached = c.requires.reached.1 k turn layer is_turn is_layer in
    let low : k < length walks = omega (arith, c.loop-row-test.true, c.requires.reached.0) in
    let is = c.deref.ensures.value ∙ sym (row_is walks k c.index-walks-row.result low c.index-walks-row.is) in
    let there = reached.reached i (omega (arith, lt, ap length is)) (subst (λ (xs : List ℕ). time_at xs i < never) is some) in
    let p = reached_low a c.requires.is c.requires.starts (g.met.L.Labels.lawful c.args.self.now.machine.now.labels) _ _ _ there in
    subst (λ (xs : List ℕ). slice_index xs i < 2 ^ 31) (sym c.nodes.ensures) (omega (arith, p)))

pub loop-row-preserved : goal.loop-row-preserved
loop-row-preserved g c =
    let a = asked_of c.args.self.now in
    let turns = c.args.turns.now in
    let walks = c.args.walks.now in
    let k = c.loop-row.row in
    let turn = c.index-turns-row.result in
    let layer = c.index-layer.result.now in
    let is_turn : slice_get turns k ≡ Some turn = slice_get_read turns (length turns) k turn refl c.loop-row-test.true c.index-turns-row.is in
    let letter = (All-contains (IsTurn a.labels) turns turn c.requires.turns.are (k, c.loop-row-test.true, sym c.index-turns-row.is)).letter in
    let is_layer : IsLayerOf a turn.letter layer = slice_get_read a.rounds.layers.items 3 turn.letter layer (sym c.requires.is.many) letter c.index-layer.ensures in
    let reached = c.requires.reached.1 k turn layer is_turn is_layer in
    let low : k < length walks = omega (arith, c.loop-row-test.true, c.requires.reached.0) in
    let is = c.deref.ensures.value ∙ sym (row_is walks k c.index-walks-row.result low c.index-walks-row.is) in
    walks_more a turns walks k turn layer c.args.labels.now.items c.loop-row.labels.items c.push_labels.new.labels.items is_turn is_layer c.loop-row.invariant
    (subst₂ (λ (nodes delays : List ℕ). AddsLabels (IsRowLabel nodes delays turn.state a.dep (length delays)) c.loop-row.labels.items c.push_labels.new.labels.items) c.nodes.ensures is c.in_ok-push_labels.ensures)

pub returns : goal.returns
returns g c =
    let a = asked_of c.args.self.now in
    let turns = c.args.turns.now in
    let walks = c.args.walks.now in
    adds_same (IsWalkBelow a turns walks c.loop-row.row) (IsWalkLabel a turns walks) c.args.labels.now.items c.loop-row.labels.items c.loop-row.invariant (λ x below. below.0)
    (λ x w. (w, omega (arith, slice_get_within turns w.row w.turn w.is_turn, c.loop-row-test.false)))
