use Rattle.plan_base.proofs.Common.{◌≡◌, ◌∙◌, ◌<◌, List, Vec, Global, Some, ℕ, length, refl, sym, ap, subst, arith, slice_get, slice_get_read, with_items_is}
use Rattle.std.specs.Vec.{with_items}
use Rattle.rounds.specs.inside.{asked_of, row_of, Turn, IsWalkOf, IsWalked, IsRowLowered, AreWalkedBelow}
use Rattle.rounds.proofs.{RowLemmas.row_is, RowLemmas.lowered_row, RowLemmas.lowered_then, WalkLemmas.walk_at, WalkLemmas.walks_more, WalkLemmas.closed_more, WalkLemmas.walked_more}
use Rattle.rounds.proofs.asked.Asked.walk_all.Goals.{then-walk_on, else-walk_on}
use Rattle.rounds.proofs.asked.Asked.walk_all.Goals as goal

pub walk_on-requires-clause-walk : goal.walk_on-requires-clause-walk
walk_on-requires-clause-walk g c =
    let a = asked_of c.args.self.now in
    let turns : List Turn = c.args.turns.now in
    let turn : Turn = c.index-turns-k.result in
    let k = c.loop-k.k in
    let walks : List (Vec ℕ Global) = c.loop-k.reached.walks.items in
    let is : slice_get turns k ≡ Some turn = slice_get_read turns (length turns) k turn refl c.loop-k-test.true c.index-turns-k.is in
    let lt : k < length walks = omega (arith, c.loop-k-test.true, c.loop-k.invariant.walks.0) in
    let row : row_of walks k ≡ c.deref_mut.result.now = row_is walks k c.index_mut.result.now lt c.index_mut.ensures.value ∙ sym c.deref_mut.ensures.value in
    subst (IsWalkOf a turn) row (walk_at a turns walks k turn is c.loop-k.invariant.walks c.loop-k.invariant.closed)

pub loop-k-preserved : goal.loop-k-preserved
loop-k-preserved g c =
    let a = asked_of c.args.self.now in
    let turns : List Turn = c.args.turns.now in
    let turn : Turn = c.index-turns-k.result in
    let k = c.loop-k.k in
    let walks : List (Vec ℕ Global) = c.loop-k.reached.walks.items in
    let is : slice_get turns k ≡ Some turn = slice_get_read turns (length turns) k turn refl c.loop-k-test.true c.index-turns-k.is in
    let lt : k < length walks = omega (arith, c.loop-k-test.true, c.loop-k.invariant.walks.0) in
    let old : Vec ℕ Global = c.index_mut.result.now in
    let row : row_of walks k ≡ c.deref_mut.result.now = row_is walks k old lt c.index_mut.ensures.value ∙ sym c.deref_mut.ensures.value in
    let after : List ℕ = c.walk_on.new.walk in
    let new : Vec ℕ Global = with_items old after in
    let items : new.items ≡ after = with_items_is old after (c.walk_on.ensures.walk_lowered.as_many ∙ ap length c.deref_mut.ensures.value ∙ sym old.ok.0) in
    let walk : IsWalkOf a turn new.items = subst (IsWalkOf a turn) (sym items) c.walk_on.ensures.walk in
    let lowered = subst (λ (xs : List ℕ). IsRowLowered (λ i t. Unit {0}) xs new.items) (sym row) (subst (IsRowLowered (λ i t. Unit {0}) c.deref_mut.result.now) (sym items) c.walk_on.ensures.walk_lowered) in
    record {
      walks = walks_more a turns walks k turn new lt is walk c.loop-k.invariant.walks;
      closed = closed_more a turns walks k turn new lt is walk c.loop-k.invariant.closed;
      crossings = c.walk_on.ensures.crossings;
      walks_lowered = lowered_then (λ k i t. Unit {0}) c.args.reached.now.walks.items walks _ c.loop-k.invariant.walks_lowered (lowered_row (λ k i t. Unit {0}) walks k new lt lowered);
      lowered = lowered_then (λ k i t. Unit {0}) c.args.reached.now.crossings.items c.loop-k.reached.crossings.items _ c.loop-k.invariant.lowered c.walk_on.ensures.lowered;
      same = λ off. elim c.if-walk_on.branch [
        | then-walk_on w ↦ absurd (let sooner = w.sooner-is in cc)
        | else-walk_on w ↦ c.walk_on.ensures.same w.if-walk_on.false ∙ c.loop-k.invariant.same (sym w.sooner-is ∙ off)
      ];
      walked = λ off. elim c.if-walk_on.branch [
        | then-walk_on w ↦ absurd (let sooner = w.sooner-is in cc)
        | else-walk_on w ↦ walked_more a turns walks k turn new lt is walk c.walk_on.new.crossings.items
            (subst (λ (rows : List (Vec ℕ Global)). AreWalkedBelow a turns walks rows k) (sym (c.walk_on.ensures.same w.if-walk_on.false)) (c.loop-k.invariant.walked (sym w.sooner-is ∙ off)))
            (λ layer is_layer. subst (λ (xs : List ℕ). IsWalked turn layer xs c.walk_on.new.crossings.items) (sym items) (c.walk_on.ensures.walked w.if-walk_on.false layer is_layer))
      ];
    }

pub returns-clause-walked : goal.returns-clause-walked
returns-clause-walked g c = λ off k turn layer lt is is_layer. c.loop-k.invariant.walked off k turn layer (omega (arith, lt, c.loop-k-test.false)) is is_layer
