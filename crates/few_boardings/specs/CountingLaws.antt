-- What is known to count is seen to. These are proofs, which a ghost member cites; nothing is defined here that a contract means.
use Rattle.std.specs.Prelude.{◌≡◌, ℕ, refl}
use Rattle.std.proofs.Common.{ap}
use Rattle.std.proofs.Props.{props}
use Rattle.std.proofs.Math.Logic.{∥∥₁_elim, ∥∥₁_map}
use Rattle.search_laws.specs.{LabelsMeaning}
use Rattle.automaton.specs.{written}
use Rattle.mode_expression.specs.Form.{Form}
use Rattle.kept_automata.specs.{known_positions}
use Rattle.few_boardings.specs.{declared.counted.Side.Side, declared.counted.Side.TheVariants.AtMost, declared.counted.Side.TheVariants.AtLeast, Counted.reads_on, Counting.IsCountingFor}

same_side : (a b : Side) → reads_on a ≡ reads_on b → a ≡ b
same_side AtMost AtMost e = refl
same_side AtMost AtLeast e = absurd cc
same_side AtLeast AtMost e = absurd cc
same_side AtLeast AtLeast e = refl

pub known_counting : (form : Form) (side : Side) (limit : ℕ) (inner : LabelsMeaning) (own_side : Side) (own_limit : ℕ)
    → ∥ IsCountingFor form side limit inner own_side own_limit ∥₁ → IsCountingFor form side limit inner own_side own_limit
known_counting form side limit inner own_side own_limit known = record {
  positions = known_positions (written form) inner (∥∥₁_map known (λ a. a.positions));
  on_side = same_side own_side side (∥∥₁_elim known (hlevel props) (λ a. ap reads_on a.on_side));
  limited = ∥∥₁_elim known (hlevel props) (λ a. a.limited);
}
