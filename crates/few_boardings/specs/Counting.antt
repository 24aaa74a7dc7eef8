-- What is made to count the rides of an expression's words.
use Rattle.std.specs.Prelude.{◌≡◌, ℕ}
use Rattle.search_laws.specs.{LabelsMeaning}
use Rattle.automaton.specs.{written, IsPositionAutomaton}
use Rattle.mode_expression.specs.Form.{Form}
use Rattle.few_boardings.specs.declared.counted.Side.{Side}

-- the automaton inside is that of the form's positions, and the counts are on this side of this limit
pub record IsCountingFor (form : Form) (side : Side) (limit : ℕ) (inner : LabelsMeaning) (own_side : Side) (own_limit : ℕ) : Type 0 where
  pub positions : IsPositionAutomaton (written form) inner
  pub on_side : own_side ≡ side
  pub limited : own_limit ≡ limit
