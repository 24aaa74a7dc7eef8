-- What is made to read the words of an expression from their ends.
use Rattle.search_laws.specs.{LabelsMeaning}
use Rattle.automaton.specs.{written, IsPositionAutomaton}
use Rattle.mode_expression.specs.Form.{Form}
use Rattle.latest_departure.specs.Reversed.{IsReversed}

-- the one automaton is that of the form's positions, and the other its reverse
pub record IsReversedFor (form : Form) (l r : LabelsMeaning) : Type 0 where
  pub positions : IsPositionAutomaton (written form) l
  pub turned : IsReversed l r
