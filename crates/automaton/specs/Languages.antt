-- Which words automata accept, by what expressions denote.
use Rattle.std.specs.Prelude.{ℕ, ◌↔◌, List}
use Rattle.search_laws.specs.{collapse, LabelsMeaning, IsLawfulLabels, Accepts}
use Rattle.mode_expression.specs.{Form.Form, IsUsable, IsWordOf}
use Rattle.automaton.specs.{Written.written, States.IsPositionAutomaton, Collapsed.collapsed}

-- a position automaton of an expression accepts exactly the words that the expression denotes
abbrev pub PositionsAccept : Type 0
PositionsAccept = (form : Form) → IsUsable form → (l : LabelsMeaning) → IsLawfulLabels l → IsPositionAutomaton (written form) l
    → (word : List ℕ) → Accepts l word ↔ IsWordOf form word

-- collapsed it accepts exactly those whose collapse the expression denotes
abbrev pub CollapsedPositionsAccept : Type 0
CollapsedPositionsAccept = (form : Form) → IsUsable form → (l : LabelsMeaning) → IsLawfulLabels l → IsPositionAutomaton (written form) l
    → (word : List ℕ) → Accepts (collapsed l) word ↔ IsWordOf form (collapse word)
