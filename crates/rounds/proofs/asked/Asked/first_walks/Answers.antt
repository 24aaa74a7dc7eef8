use Rattle.plan_base.proofs.Common.{◌≡◌, ◌∙◌, ◌+◌, ◌<◌, ◌++◌, ◌∷◌, [], ℕ, List, Vec, Global, Some, All, length, refl, sym, ap, subst, arith, slice_get, slice_get_read, slice_get_within, same_Some, length_push, below_more}
use Rattle.product_search.specs.{Label}
use Rattle.rounds.specs.{Layers.CoreLayer}
use Rattle.rounds.specs.inside.{asked_of, row_of, IsLayerOf, Turn, IsWalkOf, IsNotedAt}
use Rattle.rounds.proofs.RowLemmas.{row-push, row-push_before}
use Rattle.rounds.proofs.asked.Asked.first_walks.Goals as goal

-- what holds of the rows of the first so many turns holds of one more
rows_more : (P : Turn → List ℕ → Type 0) (turns : List Turn) (walks : List (Vec ℕ Global)) (row : Vec ℕ Global) (count : ℕ) (turn : Turn) → length walks ≡ count → slice_get turns count ≡ Some turn → P turn row.items
    → ((k : ℕ) (x : Turn) → k < count → slice_get turns k ≡ Some x → P x (row_of walks k)) → (k : ℕ) (x : Turn) → k < count + 1 → slice_get turns k ≡ Some x → P x (row_of (walks ++ row ∷ []) k)
rows_more P turns walks row count turn many is here before k x lt is_x =
    below_more (λ k. (x : Turn) → slice_get turns k ≡ Some x → P x (row_of (walks ++ row ∷ []) k)) count
    (λ k lt x is_x. subst (P x) (sym (row-push_before walks row k (omega (arith, lt, many)))) (before k x lt is_x))
    (λ x is_x. subst (P x) (sym (row-push walks row count (sym many))) (subst (λ y. P y row.items) (same_Some turn x (sym is ∙ is_x)) here)) k lt x is_x

pub loop-turn-preserved : goal.loop-turn-preserved
loop-turn-preserved g c =
    let a = asked_of c.args.self.now in
    let firsts : List Label = c.args.firsts.now in
    let turns : List Turn = c.args.turns.now in
    let turn : Turn = c.turn-item.result in
    let k = c.loop-turn.turn-index in
    let old : List (Vec ℕ Global) = c.loop-turn.walks.items in
    let row : Vec ℕ Global = c.in-Some.walk in
    let is : slice_get turns k ≡ Some turn = slice_get_read turns (length turns) k turn refl c.loop-turn-test.true c.turn-item.is in
    let pushed = sym c.in_ok-push.ensures.items in
    let kept = c.loop-turn.invariant in
    record {
      many = omega (arith, ap length c.in_ok-push.ensures.items, length_push old row, kept.many);
      walks = subst (λ (rows : List (Vec ℕ Global)). (j : ℕ) (x : Turn) → j < k + 1 → slice_get turns j ≡ Some x → IsWalkOf a x (row_of rows j)) pushed
          (rows_more (IsWalkOf a) turns old row k turn kept.many is (rw c.in-Some.is at c.in_ok-walk.ensures.walk) kept.walks);
      noted = λ j x layer lt is_x is_layer. subst (λ (rows : List (Vec ℕ Global)). All (IsNotedAt a.dep layer.sheet.slope.nodes.items x (row_of rows j)) firsts) pushed
          (rows_more (λ y xs. (z : CoreLayer) → IsLayerOf a y.letter z → All (IsNotedAt a.dep z.sheet.slope.nodes.items y xs) firsts) turns old row k turn kept.many is
          (rw c.in-Some.is at c.in_ok-walk.ensures.noted) (λ j x lt is_x z is_z. kept.noted j x z lt is_x is_z) j x lt is_x layer is_layer);
    }

pub returns-clause-walks : goal.returns-clause-walks
returns-clause-walks g c = λ k turn is. c.loop-turn.invariant.walks k turn (omega (arith, slice_get_within c.args.turns.now k turn is, c.loop-turn-test.false)) is

pub returns-clause-noted : goal.returns-clause-noted
returns-clause-noted g c = λ k turn layer is. c.loop-turn.invariant.noted k turn layer (omega (arith, slice_get_within c.args.turns.now k turn is, c.loop-turn-test.false)) is
