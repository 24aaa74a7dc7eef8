-- The grammar of expressions, by its derivation trees.
use Rattle.std.specs.Prelude.{◌≡◌, ℕ, ◌≤◌, ◌++◌, List, [], ◌∷◌, Some, None}
use Rattle.mode_expression.specs.{declared.token.Token.Token, declared.token.Token.TheVariants.Name, declared.token.Token.TheVariants.Number, declared.token.Token.TheVariants.Bar, declared.token.Token.TheVariants.Star, declared.token.Token.TheVariants.Plus, declared.token.Token.TheVariants.Question, declared.token.Token.TheVariants.OpenBrace, declared.token.Token.TheVariants.CloseBrace, declared.token.Token.TheVariants.Comma, declared.token.Token.TheVariants.Open, declared.token.Token.TheVariants.Close, Form.Form, Form.letters, Form.in_turn, Form.one_of, Form.repeated}

-- suffix = "*" | "+" | "?" | "{" number "}" | "{" number "," number "}"
pub data Suffix : Type 0 where
  star : Suffix
  plus : Suffix
  question : Suffix
  exactly : (n : ℕ) → 1 ≤ n → Suffix
  between : (m n : ℕ) → 1 ≤ n → m ≤ n → Suffix

mutual
  -- expr = seq | seq "|" expr
  pub data Choice : Type 0 where
    only : Row → Choice
    or : Row → Choice → Choice

  -- seq = item | item seq
  pub data Row : Type 0 where
    last : Item → Row
    next : Item → Row → Row

  -- item = atom | atom suffix
  pub data Item : Type 0 where
    plain : Atom → Item
    counted : Atom → Suffix → Item

  -- atom = name | "(" expr ")"
  pub data Atom : Type 0 where
    name : ℕ → Atom
    group : Choice → Atom

abbrev pub suffix_tokens : Suffix → List Token
suffix_tokens star = Star ∷ []
suffix_tokens plus = Plus ∷ []
suffix_tokens question = Question ∷ []
suffix_tokens (exactly n _) = OpenBrace ∷ Number n ∷ CloseBrace ∷ []
suffix_tokens (between m n _ _) = OpenBrace ∷ Number m ∷ Comma ∷ Number n ∷ CloseBrace ∷ []

-- the tokens that a tree derives
abbrev mutual
  pub choice_tokens : Choice → List Token
  choice_tokens (only row) = row_tokens row
  choice_tokens (or row choice) = row_tokens row ++ Bar ∷ choice_tokens choice

  pub row_tokens : Row → List Token
  row_tokens (last item) = item_tokens item
  row_tokens (next item row) = item_tokens item ++ row_tokens row

  pub item_tokens : Item → List Token
  item_tokens (plain atom) = atom_tokens atom
  item_tokens (counted atom suffix) = atom_tokens atom ++ suffix_tokens suffix

  pub atom_tokens : Atom → List Token
  atom_tokens (name bits) = Name bits ∷ []
  atom_tokens (group choice) = Open ∷ choice_tokens choice ++ Close ∷ []

-- a sequence of one part is that part
abbrev pub sequence : List Form → Form
sequence (part ∷ []) = part
sequence parts = in_turn parts

-- an alternative of one part is that part
abbrev pub alternative : List Form → Form
alternative (part ∷ []) = part
alternative parts = one_of parts

abbrev pub counted_form : Form → Suffix → Form
counted_form part star = repeated part 0 None
counted_form part plus = repeated part 1 None
counted_form part question = repeated part 0 (Some 1)
counted_form part (exactly n _) = repeated part n (Some n)
counted_form part (between m n _ _) = repeated part m (Some n)

-- the expression of a tree
abbrev mutual
  pub choice_forms : Choice → List Form
  choice_forms (only row) = sequence (row_forms row) ∷ []
  choice_forms (or row choice) = sequence (row_forms row) ∷ choice_forms choice

  pub row_forms : Row → List Form
  row_forms (last item) = item_form item ∷ []
  row_forms (next item row) = item_form item ∷ row_forms row

  pub item_form : Item → Form
  item_form (plain atom) = atom_form atom
  item_form (counted atom suffix) = counted_form (atom_form atom) suffix

  pub atom_form : Atom → Form
  atom_form (name bits) = letters bits
  atom_form (group choice) = alternative (choice_forms choice)

-- the tokens are a sentence, and the form is its expression
pub record IsSentence (tokens : List Token) (form : Form) : Type 0 where
  pub tree : Choice
  pub derives : choice_tokens tree ≡ tokens
  pub means : alternative (choice_forms tree) ≡ form

-- some sentence begins with these tokens
abbrev pub BeginsSentence : List Token → Type 0
BeginsSentence tokens = (rest : List Token) × (form : Form) × IsSentence (tokens ++ rest) form
