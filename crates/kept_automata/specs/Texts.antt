-- The text of a query line's expression, and what is made of the expression that a text is.
use Rattle.std.specs.Prelude.{◌≡◌, ℕ, ◌+◌, ◌==◌, List, [], drop, Option, Some, None, position}
use Rattle.mode_expression.specs.{Form.Form, IsExpression}
use Rattle.journey.specs.{Shape, shape_of}

-- it is what is made of the expression that the text is
abbrev pub IsMadeOfText : List ℕ → (Form → Type 0) → Type 0
IsMadeOfText text IsMade = (form : Form) → IsExpression text form → IsMade form

-- the expression of the line has this form
pub record IsSpelledIn (line : List ℕ) (form : Form) : Type 0 where
  pub shape : Shape
  pub shape_is : shape_of line ≡ Some shape
  pub expression : IsExpression shape.expr form

abbrev pub behind_place : List ℕ → Option ℕ → List ℕ
behind_place text None = []
behind_place text (Some k) = drop (k + 1) text

-- what stands behind the first space
abbrev pub behind_space : List ℕ → List ℕ
behind_space text = behind_place text (position (λ b. b == 32) text)

abbrev pub expression_text : List ℕ → List ℕ
expression_text line = behind_space (behind_space (behind_space (behind_space line)))
