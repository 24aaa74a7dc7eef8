use Rattle.plan_base.proofs.Common.{◌≡◌, ◌<◌, ℕ, length, All, Some, slice_get}
use Rattle.rounds.specs.Layers.{CoreLayer}
use Rattle.rounds.specs.inside.{asked_of, row_of, IsLayerOf, Turn, IsWalkOf, IsNotedAt}
use Rattle.rounds.proofs.asked.Asked.first_walks.Given as goal

-- there are the walks of the first so many turns
abbrev pub invariant-loop-turn : goal.invariant-loop-turn
invariant-loop-turn g l = record {
  many : length l.walks.items ≡ l.turn-index;
  walks : (k : ℕ) (turn : Turn) → k < l.turn-index → slice_get l.turns k ≡ Some turn → IsWalkOf (asked_of l.self) turn (row_of l.walks.items k);
  noted : (k : ℕ) (turn : Turn) (layer : CoreLayer) → k < l.turn-index → slice_get l.turns k ≡ Some turn → IsLayerOf (asked_of l.self) turn.letter layer
      → All (IsNotedAt l.self.dep layer.sheet.slope.nodes.items turn (row_of l.walks.items k)) l.firsts;
}
